-- S from its magnitude and its half of the turn, at the machine's signed numbers. Assumes nothing.
use mathlib.Core.Path.{◌≡◌, sym, ap, ◌∙◌, subst⁻¹}
use Prim.Native.Nat.{ℕ, ◌%◌, ◌^◌, ◌≤◌, ◌<◌}
use native.Mathlib.Nat.{mod-eq_of_lt}
use native.Mathlib.Omega.{arith}
use lib.IntN.{ℤ, pos, neg_ℤ, nat_abs, ◌-ℤ◌, +ℤ_idl}
use mir.Syntax.{w64}
use mir.Val.{SFits, to_z, of_z}
use mir.Facts.{to_z_pos, to_z-of_z}
use Rattle.integer.specs.Bound.{Within}
use Rattle.integer.proofs.Bounds.{within_pos, within_neg, sfits_within}
use Rattle.trig.specs.Sine.{quarter_sine, S}
use Rattle.trig.specs.Contract.{Bounded}
use Rattle.trig.specs.ExactSine.{NearSine, SineAt}
use Rattle.trig.proofs.Quarters.{arc, arc_of, S-within, magnitude_is, magnitude_upper, magnitude_lower}
use Rattle.trig.proofs.Accuracy.{S-near}
use Rattle.trig.proofs.Products.{quarter_sine_le}

-- the sine of a number that is the arc
pub magnitude_at : (a s r : ℕ) → a < 2 ^ 32 → r ≡ arc_of a → s ≡ quarter_sine r → Bounded (2 ^ 30) (nat_abs (S a)) s
unfolding arc
magnitude_at a s r h i e =
    let w : a % 2 ^ 32 ≡ a = mod-eq_of_lt h in
    let at : r ≡ arc a = rw w i in
    let m : s ≡ quarter_sine (arc a) = e ∙ ap quarter_sine at in
    record { is = m ∙ sym (magnitude_is a); small = rw m (quarter_sine_le (arc a)) }

sine_at : (a : ℕ) (z : ℤ) → z ≡ S a → SineAt a z
sine_at a z e = record { is = e; small = subst⁻¹ (Within (2 ^ 30)) e (S-within a); near = subst⁻¹ (NearSine a) e (S-near a) }

module _ (s : ℕ) (h : s ≤ 2 ^ 30) where
  plus_is : to_z w64 s ≡ pos s
  plus_is = to_z_pos w64 (omega arith)

  minus_is : pos 0 -ℤ to_z w64 s ≡ neg_ℤ (pos s)
  minus_is = ap (λ (z : ℤ). pos 0 -ℤ z) plus_is ∙ +ℤ_idl (neg_ℤ (pos s))

module _ (a s : ℕ) (m : Bounded (2 ^ 30) (nat_abs (S a)) s) where
  pub minus_fits : SFits w64 (pos 0 -ℤ to_z w64 s)
  minus_fits = subst⁻¹ (SFits w64) (minus_is s m.small) (sfits_within (within_neg (within_pos m.small)) tt)

  pub upper_sine : a < 2 ^ 31 → SineAt a (to_z w64 s)
  upper_sine h =
      sine_at a (to_z w64 s) (plus_is s m.small ∙ ap pos m.is ∙ sym (magnitude_upper a h))

  pub lower_sine : 2 ^ 31 ≤ a → a < 2 ^ 32 → SineAt a (to_z w64 (of_z w64 (pos 0 -ℤ to_z w64 s)))
  lower_sine h l =
      sine_at a (to_z w64 (of_z w64 (pos 0 -ℤ to_z w64 s)))
      (to_z-of_z minus_fits ∙ minus_is s m.small ∙ ap (λ (n : ℕ). neg_ℤ (pos n)) m.is ∙ sym (magnitude_lower a h l))
