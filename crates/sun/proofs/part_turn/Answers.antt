-- `sun::part_turn` meets its contract. Assumes nothing.
use Rattle.std.proofs.Common.{ℕ, ◌*◌, ◌/◌, ◌^◌, ap, ◌∙◌, to_z-of_z}
use Rattle.sun.specs.Sun.{part_turn}
use Rattle.sun.proofs.PartTurn.{split_quotient}
use Rattle.sun.proofs.part_turn.Goals as goal

pub returns : goal.returns
unfolding part_turn
returns c =
    let rest_is = rw (to_z-of_z c.ranges.n) at c.floor_div-turns.ensures.remainder_is in
    split_quotient _ _ c.requires.0 ∙ ap (λ (m : ℕ). m * 2 ^ 32 / c.args.d) rest_is
