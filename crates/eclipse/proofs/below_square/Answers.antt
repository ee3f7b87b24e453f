-- `eclipse::below_square` meets its contract. Assumes nothing.
use borrow.Author.Rules.{rules}
use Rattle.integer.proofs.Bounds.{within_mul, sfits_within}
use Rattle.eclipse.specs.Shade.{below_square}
use Rattle.eclipse.proofs.below_square.Goals as goal

pub returns : goal.returns
unfolding below_square
returns c = let b = within_mul c.requires c.requires in search (rules, sfits_within)
