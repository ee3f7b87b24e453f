-- Horner's rule: the exact step, the step on whole numbers against it, and how far off that is, in K-ths of a unit. Assumes nothing.
use mathlib.Core.Path.{◌≡◌, refl, ap}
use mathlib.Core.List.{List, [], ◌∷◌}
use Prim.Native.Nat.{ℕ, zero, ◌+◌, ◌*◌, ◌≤◌, ◌<◌}
use native.Mathlib.Nat.{mul-one, mul-le-mul_left, mul-le-mul_right, le_of_mul-le-mul_right}
use native.Mathlib.Omega.{arith}
use Rattle.integer.proofs.Ring.{ring}
use Rattle.trig.specs.ExactSine.{Fraction}

-- 1 - t/(d·T) of a fraction: no subtraction, and no sign to know
abbrev pub next : ℕ → ℕ → ℕ → Fraction → Fraction
next T t d f = record { p = d * T * f.d + t * f.m; m = t * f.p; d = d * T * f.d }

-- the nested sum with these divisors, the outermost first
abbrev pub nested : ℕ → ℕ → List ℕ → Fraction
nested T t [] = record { p = 1; m = 0; d = 1 }
nested T t (d ∷ ds) = next T t d (nested T t ds)

-- its denominator
abbrev pub scale : ℕ → List ℕ → ℕ
scale T [] = 1
scale T (d ∷ ds) = d * T * scale T ds

pub scale_is : (T t : ℕ) (ds : List ℕ) → (nested T t ds).d ≡ scale T ds
scale_is T t [] = refl
scale_is T t (d ∷ ds) = ap (λ (y : ℕ). d * T * y) (scale_is T t ds)

-- K·v is at most a above and at most e below K·b·f
pub record Off (K b v a e : ℕ) (f : Fraction) : Type 0 where
  pub above : K * v * f.d + K * b * f.m ≤ K * b * f.p + a * f.d
  pub below : K * b * f.p ≤ K * v * f.d + K * b * f.m + e * f.d

-- z·v / (d·b) is not much below t·v / (d·T)
pub quotient_above : (K b d T t z v q δ e a : ℕ) → zero < b → z * v ≤ (q + 1) * (d * b) → t * b ≤ (z + δ) * T → v ≤ b → (K * d + K * δ) * T + e * t ≤ a * d * T → K * v * t + e * t ≤ (K * q + a) * (d * T)
quotient_above K b d T t z v q δ e a hb h2 z2 hv num =
    le_of_mul-le-mul_right {k = b}
    (simp ring
    (omega (
      arith,
      simp ring at (mul-le-mul_left (K * v) z2),
      simp (ring, mul-one) at (mul-le-mul_left (K * T) h2),
      simp ring at (mul-le-mul_left (K * δ * T) hv),
      simp ring at (mul-le-mul_right b num),
    )))
    hb

-- and not above it
pub quotient_below : (b d T t z v q : ℕ) → zero < b → q * (d * b) ≤ z * v → z * T ≤ t * b → q * (d * T) ≤ v * t
quotient_below b d T t z v q hb h1 z1 =
    le_of_mul-le-mul_right {k = b}
    (simp ring
    (omega (arith, simp ring at (mul-le-mul_left T h1), simp ring at (mul-le-mul_left v z1))))
    hb

step_above : (K b d T t v v' q p m c a e : ℕ) → K * b * p ≤ K * v * c + K * b * m + e * c → K * v * t + e * t ≤ (K * q + a) * (d * T) → v' + q ≡ b → K * v' * (d * T * c) + K * b * (t * p) ≤ K * b * (d * T * c + t * m) + a * (d * T * c)
step_above K b d T t v v' q p m c a e ih star whole =
    simp ring
    (omega (
      arith,
      simp ring at (mul-le-mul_left t ih),
      simp ring at (mul-le-mul_left c star),
      simp ring at (ap (λ (n : ℕ). K * d * T * c * n) whole),
    ))

step_below : (K b d T t v v' q p m c a e : ℕ) → K * v * c + K * b * m ≤ K * b * p + a * c → q * (d * T) ≤ v * t → a * t ≤ e * d * T → v' + q ≡ b → K * b * (d * T * c + t * m) ≤ K * v' * (d * T * c) + K * b * (t * p) + e * (d * T * c)
step_below K b d T t v v' q p m c a e ih star num whole =
    simp ring
    (omega (
      arith,
      simp ring at (mul-le-mul_left t ih),
      simp ring at (mul-le-mul_left (K * c) star),
      simp ring at (mul-le-mul_left c num),
      simp ring at (ap (λ (n : ℕ). K * d * T * c * n) whole),
    ))

-- one step: v' = b - q, and q is the quotient
pub step_off : (K b d T t v v' q a e a' e' : ℕ) (f : Fraction) → Off K b v a e f → v' + q ≡ b → K * v * t + e * t ≤ (K * q + a') * (d * T) → q * (d * T) ≤ v * t → a * t ≤ e' * d * T → Off K b v' a' e' (next T t d f)
step_off K b d T t v v' q a e a' e' f off whole high low num =
    record {
      above = step_above K b d T t v v' q f.p f.m f.d a' e off.below high whole;
      below = step_below K b d T t v v' q f.p f.m f.d a e' off.above low num whole;
    }

-- the end: s is x·v / b
pub end_above : (K b D N x v s p m c a F : ℕ) → zero < b → s * b ≤ x * v → x * D ≤ N * b → K * v * c + K * b * m ≤ K * b * p + a * c → a * N ≤ F * D → K * s * (D * c) + K * b * (N * m) ≤ K * b * (N * p) + F * (D * c)
end_above K b D N x v s p m c a F hb h1 x1 ih num =
    let star : s * D ≤ N * v = le_of_mul-le-mul_right {k = b} (simp ring (omega (arith, simp ring at (mul-le-mul_left D h1), simp ring at (mul-le-mul_left v x1)))) hb in
    simp ring
    (omega (
      arith,
      simp ring at (mul-le-mul_left (K * c) star),
      simp ring at (mul-le-mul_left N ih),
      simp ring at (mul-le-mul_left c num),
    ))

pub end_below : (K b D N x v s p m c e g F : ℕ) → zero < b → x * v ≤ (s + 1) * b → K * N * b ≤ (K * x + g) * D → v ≤ b → K * b * p ≤ K * v * c + K * b * m + e * c → (K + g) * D + e * N ≤ F * D → K * b * (N * p) ≤ K * s * (D * c) + K * b * (N * m) + F * (D * c)
end_below K b D N x v s p m c e g F hb h2 x2 hv ih num =
    let star : K * N * v ≤ (K * s + K + g) * D =
    le_of_mul-le-mul_right {k = b} (simp ring (omega (arith, simp (ring, mul-one) at (mul-le-mul_left (K * D) h2), simp ring at (mul-le-mul_left v x2), simp ring at (mul-le-mul_left (g * D) hv)))) hb in
    simp ring
    (omega (
      arith,
      simp ring at (mul-le-mul_left c star),
      simp ring at (mul-le-mul_left N ih),
      simp ring at (mul-le-mul_left c num),
    ))
