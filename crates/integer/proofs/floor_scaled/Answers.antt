-- `integer::floor_scaled` meets its contract. Assumes nothing.
use borrow.Author.Rules.{rules}
use mathlib.Core.Path.{◌≡◌, ◌∙◌}
use Prim.Native.Nat.{ℕ, ◌*◌, ◌/◌, ◌≤◌}
use native.Mathlib.Nat.{div-le_self, mul-le-mul_right, one-mul}
use native.Mathlib.Omega.{arith}
use lib.IntN.{ℤ, pos, ◌+ℤ◌, ◌*ℤ◌}
use mir.Syntax.{w64}
use mir.Val.{SFits, to_z, of_z}
use mir.Facts.{to_z-of_z, to_z_pos}
use Rattle.integer.specs.Contract.{FloorDivided, Scalable}
use Rattle.integer.specs.Division.{floor_z, mod_z}
use Rattle.integer.specs.declared.FloorQuotient.{FloorQuotient}
use Rattle.integer.proofs.Bounds.{sfits_within}
use Rattle.integer.proofs.Division.{mod_below, floor_scaled, whole_within}
use Rattle.integer.proofs.Sizes.{mag_nat_abs}
use Rattle.integer.proofs.floor_scaled.Goals as goal

module _ {x : ℤ} {s d : ℕ} {whole : FloorQuotient} (h : Scalable x s d) (f : SFits w64 x) (e : FloorDivided (to_z w64 (of_z w64 x)) d whole) (g : SFits w64 whole.quotient) where
  scale_le : s ≤ 4611686018427387904
  scale_le = let le = mul-le-mul_right s h.divisor in omega (arith, one-mul s, h.remainders)

  part_le : mod_z x d * s / d ≤ 4611686018427387904
  part_le =
      let below : mod_z x d ≤ d = omega (arith, mod_below x d h.divisor) in
      omega (arith, mul-le-mul_right s below, h.remainders, div-le_self (mod_z x d * s) d)

  whole_is : to_z w64 (of_z w64 whole.quotient) *ℤ to_z w64 s ≡ floor_z x d *ℤ pos s
  whole_is = rw (to_z-of_z g, to_z_pos w64 {n = s} (omega (arith, scale_le)), rw (to_z-of_z f) at e.quotient_is)

  -- the quotient scaled fits
  whole_fits : SFits w64 (to_z w64 (of_z w64 whole.quotient) *ℤ to_z w64 s)
  whole_fits =
      let w = whole_within x s d h.divisor h.answer in
      rw whole_is (record { sfits = omega (arith, w.within, mag_nat_abs (floor_z x d *ℤ pos s), part_le) })

  -- and with the remainder scaled it is the answer
  sum_is : to_z w64 (of_z w64 (to_z w64 (of_z w64 whole.quotient) *ℤ to_z w64 s)) +ℤ to_z w64 (whole.remainder * s / d) ≡ floor_z (x *ℤ pos s) d
  sum_is =
      rw (to_z-of_z whole_fits, whole_is, rw (to_z-of_z f) at e.remainder_is, to_z_pos w64 {n = mod_z x d * s / d} (omega (arith, part_le)))
      (floor_scaled x s d h.divisor)

pub overflow_mul-result : goal.overflow_mul-result
overflow_mul-result c = whole_fits c.requires c.ranges.x c.floor_div-whole.ensures (search rules)

pub overflow_add-result : goal.overflow_add-result
overflow_add-result c =
    rw (sum_is c.requires c.ranges.x c.floor_div-whole.ensures (search rules)) (sfits_within c.requires.answer tt)

pub returns : goal.returns
returns c = to_z-of_z (overflow_add-result c) ∙ sum_is c.requires c.ranges.x c.floor_div-whole.ensures (search rules)
