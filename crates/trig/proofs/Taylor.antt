-- The Taylor sums as nested sums, and the series before the cap within 4 units of them. Assumes nothing.
use mathlib.Core.Path.{◌≡◌, ap, ◌∙◌, sym}
use mathlib.Core.List.{List, [], ◌∷◌}
use Prim.Native.Nat.{ℕ, zero, ◌+◌, ◌*◌, ◌/◌, ◌^◌, ◌≤◌, ◌<◌}
use native.Mathlib.Nat.{le_of_mul-le-mul_left, mul-le-mul_left, mul-one, mul-zero, mul_assoc, add-zero, one-mul, pow-suc, pow-zero}
use native.Mathlib.Omega.{arith}
use lib.Pow.{pow-add}
use Rattle.integer.proofs.Ring.{ring}
use Rattle.trig.specs.Sine.{radians, square, series, uncapped}
use Rattle.trig.specs.ExactSine.{D, pi_low, pi_high, term, plus, minus, Fraction, quarter_end19, quarter_end17, Near}
use Rattle.trig.proofs.Horner.{nested, end_above, end_below}
use Rattle.trig.proofs.Steps.{divisors, Hundredths, seven_steps}
use Rattle.trig.proofs.Reduction.{Reduced, reduced_low, reduced_high}

-- 1 is near what is left of the sums after x^15/15!: one term, or two
rest17 : (T t : ℕ) → 10000 * t ≤ 24675 * T → Hundredths (2 ^ 30) 974065424 0 (nested T t (272 ∷ []))
rest17 T t ht = record { above = omega arith; below = omega arith }

rest19 : (T t : ℕ) → 10000 * t ≤ 24675 * T → Hundredths (2 ^ 30) 974065424 0 (nested T t (272 ∷ 342 ∷ []))
rest19 T t ht =
    let h_t = simp ring at (mul-le-mul_left T ht) in
    let hs = simp ring at (mul-le-mul_left t ht) in
    record { above = simp (ring, mul-one, mul-zero, add-zero) (omega arith); below = simp (ring, mul-one, mul-zero, add-zero) (omega arith) }

-- x = n / D times a fraction
abbrev pub times : ℕ → ℕ → Fraction → Fraction
times D n f = record { p = n * f.p; m = n * f.m; d = D * f.d }

cancel_above : (K b s dc nm np F : ℕ) → zero < K → K * s * dc + K * b * nm ≤ K * b * np + K * F * dc → s * dc + b * nm ≤ b * np + F * dc
cancel_above K b s dc nm np F hK h = le_of_mul-le-mul_left {k = K} (simp ring (simp ring at h)) hK

cancel_below : (K b s dc nm np F : ℕ) → zero < K → K * b * np ≤ K * s * dc + K * b * nm + K * F * dc → b * np ≤ s * dc + b * nm + F * dc
cancel_below K b s dc nm np F hK h = le_of_mul-le-mul_left {k = K} (simp ring (simp ring at h)) hK

uncapped_near : (D r n : ℕ) (ds : List ℕ) → Reduced D r n → Hundredths (2 ^ 30) 974065424 0 (nested (D * D) (n * n) ds) → Near (uncapped r) (times D n (nested (D * D) (n * n) (divisors ds)))
unfolding uncapped
uncapped_near D r n ds h rest =
    let b : ℕ = 2 ^ 30 in
    let x = radians r in
    let v = series (square x) in
    let s : ℕ = x * v / b in
    let f = nested (D * D) (n * n) (divisors ds) in
    let off = seven_steps (D * D) (n * n) (square x) h.squared (nested (D * D) (n * n) ds) rest in
    let lo : s * b ≤ x * v = omega arith in
    let hi : x * v ≤ (s + 1) * b = omega arith in
    let hn : 10000 * n ≤ 15708 * D = h.quarter in
    record {
      not_above = cancel_above 100 b s (D * f.d) (n * f.m) (n * f.p) 4 (omega arith)
          (end_above 100 b D n x v s f.p f.m f.d 190 400 (omega arith) lo h.low off.1.above (omega arith));
      not_below = cancel_below 100 b s (D * f.d) (n * f.m) (n * f.p) 4 (omega arith)
          (end_below 100 b D n x v s f.p f.m f.d 53 107 400 (omega arith) hi (rw mul_assoc h.high) off.0 off.1.below (omega arith));
    }

-- powers of n by fours, with t for n·n
pow1 : (n : ℕ) → n ^ 1 ≡ n
pow1 n = pow-suc n 0 ∙ ap (λ (y : ℕ). y * n) (pow-zero n) ∙ one-mul n

pow2 : (n : ℕ) → n ^ 2 ≡ n * n
pow2 n = pow-suc n 1 ∙ ap (λ (y : ℕ). y * n) (pow1 n)

pow3 : (n : ℕ) → n ^ 3 ≡ n * (n * n)
pow3 n = pow-suc n 2 ∙ ap (λ (y : ℕ). y * n) (pow2 n) ∙ mul_assoc n n n

pow4 : (n k : ℕ) → n ^ (k + 4) ≡ n ^ k * (n * n * (n * n))
pow4 n k = pow-add n k 4 ∙ ap (λ (y : ℕ). n ^ k * y) (pow-add n 2 2 ∙ ap (λ (y : ℕ). y * y) (pow2 n))

-- four terms of a nested sum, four powers apart; and one more
four : (x t a b c d : ℕ) → x * (a + t * (t * (b + t * (t * (c + t * (t * d)))))) ≡ x * a + x * (t * t) * b + x * (t * t) * (t * t) * c + x * (t * t) * (t * t) * (t * t) * d
four x t a b c d = simp ring (omega arith)

one_more : (x t d e : ℕ) → x * (d + t * (t * e)) ≡ x * d + x * (t * t) * e
one_more x t d e = simp ring

four_and_one : (x t a b c d e : ℕ) → x * (a + t * (t * (b + t * (t * (c + t * (t * (d + t * (t * e)))))))) ≡ x * a + x * (t * t) * b + x * (t * t) * (t * t) * c + x * (t * t) * (t * t) * (t * t) * d + x * (t * t) * (t * t) * (t * t) * (t * t) * e
four_and_one x t a b c d e =
    let o = one_more (x * (t * t) * (t * t) * (t * t)) t d e in
    omega (arith, four x t a b c (d + t * (t * e)))

abbrev pub sum19 : ℕ → Fraction
sum19 n = nested (D * D) (n * n) (divisors (272 ∷ 342 ∷ []))

abbrev pub sum17 : ℕ → Fraction
sum17 n = nested (D * D) (n * n) (divisors (272 ∷ []))

pub plus19 : (n : ℕ) → n * (sum19 n).p ≡ plus 19 n
unfolding plus
plus19 n =
    rw (mul-zero (n * n), pow4 n 13, pow4 n 9, pow4 n 5, pow4 n 1, pow1 n)
    (four_and_one n (n * n) _ _ _ _ _)

pub minus19 : (n : ℕ) → n * (sum19 n).m ≡ minus 19 n + term 19 n 19
unfolding minus
minus19 n =
    rw (pow4 n 15, pow4 n 11, pow4 n 7, pow4 n 3, pow3 n)
    (sym (mul_assoc n (n * n) _) ∙ four_and_one (n * (n * n)) (n * n) _ _ _ _ _)

pub plus17 : (n : ℕ) → n * (sum17 n).p ≡ plus 17 n
unfolding plus
plus17 n =
    rw (pow4 n 13, pow4 n 9, pow4 n 5, pow4 n 1, pow1 n)
    (four_and_one n (n * n) _ _ _ _ _)

pub minus17 : (n : ℕ) → n * (sum17 n).m ≡ minus 17 n
unfolding minus
minus17 n =
    rw (mul-zero (n * n), pow4 n 11, pow4 n 7, pow4 n 3, pow3 n)
    (sym (mul_assoc n (n * n) _) ∙ four (n * (n * n)) (n * n) _ _ _ _)

pub uncapped_near19 : (r : ℕ) → r ≤ 2 ^ 30 → Near (uncapped r) (quarter_end19 r)
unfolding quarter_end19
uncapped_near19 r hr =
    let n : ℕ = r * pi_low in
    let h = reduced_low r hr in
    rw (← plus19 n, ← minus19 n) (uncapped_near D r n (272 ∷ 342 ∷ []) h (rest19 (D * D) (n * n) h.squared.quarter))

pub uncapped_near17 : (r : ℕ) → r ≤ 2 ^ 30 → Near (uncapped r) (quarter_end17 r)
unfolding quarter_end17
uncapped_near17 r hr =
    let n : ℕ = r * pi_high in
    let h = reduced_high r hr in
    rw (← plus17 n, ← minus17 n) (uncapped_near D r n (272 ∷ []) h (rest17 (D * D) (n * n) h.squared.quarter))
