use Rattle.kepler.proofs.+halve.Given as goal

-- the halvings left
abbrev pub decreases-halve : goal.decreases-halve
decreases-halve l = l.left
