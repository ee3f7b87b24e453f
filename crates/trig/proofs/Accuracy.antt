-- S is within 4 units of both ends of the exact sine at every angle. Assumes nothing.
use mathlib.Core.Path.{◌≡◌}
use Prim.Native.Nat.{ℕ, zero, suc, ◌%◌, ◌^◌, ◌≤◌, ◌<◌}
use native.Mathlib.Decide.{dec_lt}
use native.Mathlib.Nat.{lt_of_not-le}
use native.Mathlib.Omega.{arith}
use lib.IntN.{ℤ, pos, neg_ℤ}
use Rattle.trig.specs.Sine.{quarter_sine, by_symmetry, S}
use Rattle.trig.specs.ExactSine.{Fraction, opposite, quarter_end19, quarter_end17, end19, end17, Near, NearZ, NearSine}
use Rattle.trig.proofs.Quarters.{arc, arc_le, upper, lower, S-upper, S-lower}
use Rattle.trig.proofs.Cap.{quarter_near19, quarter_near17}

-- where s is near f, -s is near -f
near_opposite : (s : ℕ) (f : Fraction) → Near s f → NearZ (neg_ℤ (pos s)) (opposite f)
near_opposite zero f h = record { not_above = omega arith; not_below = omega arith }
near_opposite (suc n) f h = record { not_above = h.not_above; not_below = h.not_below }

-- and back: what holds of S, said of its magnitude
pub near_upper : (z : ℤ) (s : ℕ) (f : Fraction) → z ≡ pos s → NearZ z f → Near s f
near_upper z s f e h = rw e at h

pub near_lower : (z : ℤ) (s : ℕ) (f : Fraction) → z ≡ neg_ℤ (pos s) → NearZ z f → Near s (opposite f)
near_lower z zero f e h = near_opposite zero f (rw e at h)
near_lower z (suc n) f e h = rw e at h

module _ (quarter_end : ℕ → Fraction) (near : (r : ℕ) → r ≤ 2 ^ 30 → Near (quarter_sine r) (quarter_end r)) where
  near_by_symmetry : (a : ℕ) → NearZ (S a) (by_symmetry a (λ r. quarter_end r) (λ r. opposite (quarter_end r)))
  near_by_symmetry a = either (dec_lt (a % 2 ^ 32) (2 ^ 31))
    where
      n : Near (quarter_sine (arc a)) (quarter_end (arc a))
      n = near (arc a) (arc_le a)

      either : Dec (a % 2 ^ 32 < 2 ^ 31) → NearZ (S a) (by_symmetry a (λ r. quarter_end r) (λ r. opposite (quarter_end r)))
      either (yes h) = rw (S-upper a h, upper a quarter_end (λ r. opposite (quarter_end r)) h) n
      either (no g) =
          let h : 2 ^ 31 ≤ a % 2 ^ 32 = omega (arith, lt_of_not-le g) in
          rw (S-lower a h, lower a quarter_end (λ r. opposite (quarter_end r)) h) (near_opposite (quarter_sine (arc a)) (quarter_end (arc a)) n)

pub S-near : (a : ℕ) → NearSine a (S a)
unfolding end19 end17
S-near a =
    record { to19 = near_by_symmetry quarter_end19 quarter_near19 a; to17 = near_by_symmetry quarter_end17 quarter_near17 a }
