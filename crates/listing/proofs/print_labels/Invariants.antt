use Prim.Native.Nat.{◌≤◌}
use Rattle.listing.proofs.print_labels.Given as goal

-- a loop that begins behind the first label breaks it in a file without labels
abbrev pub invariant-loop-number : goal.invariant-loop-number
invariant-loop-number g l = l.number ≤ l.contents.counts.labels
