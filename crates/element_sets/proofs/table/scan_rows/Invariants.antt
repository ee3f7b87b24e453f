use mathlib.Core.Path.{◌≡◌}
use Prim.Native.Nat.{ℕ, ◌<◌}
use mathlib.Core.Bool.{true}
use lib.Signed.{lt_z, le_z}
use Rattle.sequence.specs.Sequence.{leading}
use Rattle.element_sets.specs.Table.{epoch_at, keeps_at}
use Rattle.element_sets.proofs.table.scan_rows.Given as goal

abbrev pub invariant-loop-k : goal.invariant-loop-k
invariant-loop-k l =
    ((j : ℕ) → j < l.k → keeps_at l.table j ≡ true)
    × (l.earlier ≡ leading (λ j. lt_z (epoch_at l.table j) l.time) l.k)
    × (l.up_to ≡ leading (λ j. le_z (epoch_at l.table j) l.time) l.k)
