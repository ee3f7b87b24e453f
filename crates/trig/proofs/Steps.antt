-- The seven steps of the series, each against the exact step: bounds in hundredths of a unit. Assumes nothing.
use mathlib.Core.List.{List, ◌∷◌}
use Prim.Native.Nat.{ℕ, zero, ◌+◌, ◌*◌, ◌-◌, ◌/◌, ◌^◌, ◌≤◌, ◌<◌}
use native.Mathlib.Nat.{le_of_lt, sub-add_cancel, one-mul, add-mul, mul_comm, mul-le-mul_left, le_of_mul-le-mul_right, div-div-eq-div-mul, div-mul-le_self, lt-div-mul-add, mul-pos}
use native.Mathlib.Omega.{arith}
use lib.Dec.{leb→le}
use Rattle.integer.proofs.Ring.{ring}
use Rattle.trig.specs.Sine.{horner_step, series}
use Rattle.trig.specs.ExactSine.{Fraction}
use Rattle.trig.proofs.Products.{quotient_le}
use Rattle.trig.proofs.Horner.{next, Off, quotient_above, quotient_below, step_off}

-- a quotient by b and then by d, from below and from above
pub quotient_low : (n b d : ℕ) → n / b / d * (d * b) ≤ n
quotient_low n b d = rw (div-div-eq-div-mul n b d, mul_comm d b) (div-mul-le_self n (b * d))

pub quotient_high : (n b d : ℕ) → zero < b → zero < d → n ≤ (n / b / d + 1) * (d * b)
quotient_high n b d hb hd =
    rw (div-div-eq-div-mul n b d, mul_comm d b, add-mul, one-mul)
    (le_of_lt (lt-div-mul-add (mul-pos hb hd)))

-- a bound with t at most num / den of T
ratio : (num den T t e X R : ℕ) → zero < den → den * t ≤ num * T → X * den + num * e ≤ R * den → X * T + e * t ≤ R * T
ratio num den T t e X R hd ht h =
    le_of_mul-le-mul_right {k = den}
    (simp ring (omega (arith, simp ring at (mul-le-mul_left e ht), simp ring at (mul-le-mul_left T h))))
    hd

-- the divisors of the series, the outermost first
abbrev pub divisors : List ℕ → List ℕ
divisors ds = 6 ∷ 20 ∷ 42 ∷ 72 ∷ 110 ∷ 156 ∷ 210 ∷ ds

-- v in hundredths of a unit
abbrev pub Hundredths : ℕ → ℕ → ℕ → Fraction → Type 0
Hundredths v a e f = Off 100 (2 ^ 30) v a e f

-- the square z of x against the exact t / T
pub record Squared (T t z : ℕ) : Type 0 where
  pub small : z ≤ 2_649_351_757
  pub low : z * T ≤ t * 2 ^ 30
  pub high : t * 2 ^ 30 ≤ (z + 5) * T
  pub quarter : 10000 * t ≤ 24675 * T

module _ (T t z : ℕ) (sq : Squared T t z) where
  one_step : (d v : ℕ) (f : Fraction) (a e a' e' : ℕ) → 6 ≤ d → v ≤ 2 ^ 30 → (100 * d + 100 * 5) * 10000 + 24675 * e ≤ a' * d * 10000 → 24675 * a ≤ e' * d * 10000 → Hundredths v a e f → (horner_step z v d ≤ 2 ^ 30) × Hundredths (horner_step z v d) a' e' (next T t d f)
  unfolding horner_step
  one_step d v f a e a' e' hd hv n1 n2 off =
      let b : ℕ = 2 ^ 30 in
      let q : ℕ = z * v / b / d in
      let hq : q ≤ b = quotient_le z v d sq.small hv hd in
      let pb : zero < b = omega arith in
      let pd : zero < d = omega arith in
      let high = quotient_above 100 b d T t z v q 5 e a' pb (quotient_high (z * v) b d pb pd) sq.high hv (ratio 24675 10000 T t e (100 * d + 100 * 5) (a' * d) (omega arith) sq.quarter n1) in
      let low = quotient_below b d T t z v q pb (quotient_low (z * v) b d) sq.low in
      let num = ratio 24675 10000 T t a 0 (e' * d) (omega arith) sq.quarter (omega arith) in
      (omega arith, step_off 100 b d T t v (b - q) q a e a' e' f off (sub-add_cancel hq) high low (omega arith))

  -- from v = 2^30, which stands for the sum's further terms
  pub seven_steps : (f : Fraction) → Hundredths (2 ^ 30) 974065424 0 f → (series z ≤ 2 ^ 30) × Hundredths (series z) 190 53 (next T t 6 (next T t 20 (next T t 42 (next T t 72 (next T t 110 (next T t 156 (next T t 210 f)))))))
  unfolding series
  seven_steps f s0 =
      let s1 = one_step 210 _ _ 974065424 0 103 11445269 (leb→le _ _ tt) (leb→le _ _ tt) (leb→le _ _ tt) (leb→le _ _ tt) s0 in
      let s2 = one_step 156 _ _ 103 11445269 181137 2 (leb→le _ _ tt) s1.0 (leb→le _ _ tt) (leb→le _ _ tt) s1.1 in
      let s3 = one_step 110 _ _ 181137 2 105 4064 (leb→le _ _ tt) s2.0 (leb→le _ _ tt) (leb→le _ _ tt) s2.1 in
      let s4 = one_step 72 _ _ 105 4064 247 4 (leb→le _ _ tt) s3.0 (leb→le _ _ tt) (leb→le _ _ tt) s3.1 in
      let s5 = one_step 42 _ _ 247 4 113 15 (leb→le _ _ tt) s4.0 (leb→le _ _ tt) (leb→le _ _ tt) s4.1 in
      let s6 = one_step 20 _ _ 113 15 127 14 (leb→le _ _ tt) s5.0 (leb→le _ _ tt) (leb→le _ _ tt) s5.1 in
      one_step 6 _ _ 127 14 190 53 (leb→le _ _ tt) s6.0 (leb→le _ _ tt) (leb→le _ _ tt) s6.1
