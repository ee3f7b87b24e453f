-- `orbit::turns::quadratic_term` meets its contract. Assumes nothing.
use mathlib.Core.Path.{◌≡◌, ◌∙◌}
use Prim.Native.Nat.{◌*◌}
use lib.Dec.{lit<, lit≤}
use lib.IntN.{◌*ℤ◌}
use mir.Syntax.{w32, w64}
use mir.Val.{to_z, of_z}
use mir.Facts.{to_z-of_z, sfits_widen}
use Rattle.integer.specs.Bound.{Within}
use Rattle.integer.proofs.Bounds.{within_mul, within_more, sfits_within}
use Rattle.orbit.specs.Turns.{quadratic_term}
use Rattle.orbit.proofs.AdvanceAndDrift.{square_within, quadratic_within}
use Rattle.orbit.proofs.turns.quadratic_term.Goals as goal
use Rattle.orbit.proofs.turns.quadratic_term.Goals.{Start}

pub overflow_cast-product : goal.overflow_cast-product
overflow_cast-product c = rw (to_z-of_z c.ranges.half_derivative) (sfits_widen tt c.ranges.half_derivative)

derivative_is : (c : Start) → to_z w64 (of_z w64 (to_z w32 (of_z w32 c.args.half_derivative))) ≡ c.args.half_derivative
derivative_is c = to_z-of_z (overflow_cast-product c) ∙ to_z-of_z c.ranges.half_derivative

pub overflow_mul-product : goal.overflow_mul-product
overflow_mul-product c =
    rw (derivative_is c, to_z-of_z c.ranges.elapsed) (sfits_within (within_mul c.requires.derivative c.requires.elapsed) tt)

-- d·Δ and d·Δ², as the machine holds them
product_is : (c : Start) → to_z w64 (of_z w64 (to_z w64 (of_z w64 (to_z w32 (of_z w32 c.args.half_derivative))) *ℤ to_z w64 (of_z w64 c.args.elapsed))) ≡ c.args.half_derivative *ℤ c.args.elapsed
product_is c = to_z-of_z (overflow_mul-product c) ∙ rw (derivative_is c, to_z-of_z c.ranges.elapsed)

pub overflow_mul-product-2 : goal.overflow_mul-product-2
overflow_mul-product-2 c =
    rw (product_is c, to_z-of_z c.ranges.elapsed) (sfits_within (square_within c.args.half_derivative c.args.elapsed c.requires) tt)

small : (c : Start) → Within (10 * 4294967296) (quadratic_term c.args.half_derivative c.args.elapsed)
small c = quadratic_within _ _ c.requires

pub floor_scaled-requires : goal.floor_scaled-requires
unfolding quadratic_term
floor_scaled-requires c =
    rw (to_z-of_z (overflow_mul-product-2 c), product_is c, to_z-of_z c.ranges.elapsed)
    (record { divisor = lit< tt; remainders = lit≤ tt; answer = within_more (small c) (lit≤ tt) })

pub returns : goal.returns
unfolding quadratic_term
returns c =
    let r = c.floor_scaled in
    let e = to_z-of_z {w = w64} (record { sfits = r.type_inv }) ∙ rw (to_z-of_z (overflow_mul-product-2 (goal.at.returns c).Start), product_is (goal.at.returns c).Start, to_z-of_z c.ranges.elapsed) at r.ensures in
    (e, rw e (small (goal.at.returns c).Start))
