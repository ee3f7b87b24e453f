-- A nested sum from the other end of its range: written in powers of ρ = R - n, as two lists of coefficients whose difference it is. Its
-- terms are then weighed against one another from the last, each power taken at most R, and one computed number bounds what is left.
-- Assumes nothing.
use mathlib.Core.Path.{◌≡◌, sym, ap}
use mathlib.Core.List.{List, [], ◌∷◌}
use Prim.Native.Nat.{ℕ, ◌+◌, ◌*◌, ◌-◌, ◌≤◌}
use native.Mathlib.Nat.{mul-le-mul, mul-le-mul_left, mul-le-mul_right, add-zero, zero-add, mul-zero, mul_assoc}
use native.Mathlib.Omega.{arith}
use Rattle.integer.proofs.Ring.{ring}
use Rattle.trig.proofs.Horner.{nested, scale, scale_is}

unfoldable pub eval : List ℕ → ℕ → ℕ
eval [] x = 0
eval (a ∷ l) x = a + x * eval l x

unfoldable pub sum : List ℕ → List ℕ → List ℕ
sum [] q = q
sum (a ∷ p) [] = a ∷ p
sum (a ∷ p) (b ∷ q) = (a + b) ∷ sum p q

unfoldable pub multiple : ℕ → List ℕ → List ℕ
multiple k [] = []
multiple k (a ∷ p) = k * a ∷ multiple k p

pub record Polynomial : Type 0 where
  pub plus : List ℕ
  pub minus : List ℕ

-- n = R - ρ times a polynomial in ρ
abbrev pub by_n : ℕ → Polynomial → Polynomial
by_n R s =
    record { plus = sum (multiple R s.plus) (0 ∷ s.minus); minus = sum (multiple R s.minus) (0 ∷ s.plus) }

-- k - n·n·s
abbrev pub step : ℕ → ℕ → Polynomial → Polynomial
step R k s =
    let w = by_n R (by_n R s) in
    record { plus = sum (k ∷ []) w.minus; minus = w.plus }

-- the nested sum as a polynomial in ρ
unfoldable pub turned : ℕ → ℕ → List ℕ → Polynomial
turned R T [] = record { plus = 1 ∷ []; minus = [] }
turned R T (d ∷ ds) = step R (scale T (d ∷ ds)) (turned R T ds)

-- how far p is above q at most, anywhere from 0 to R
unfoldable pub excess : ℕ → List ℕ → List ℕ → ℕ
excess R [] q = 0
excess R (a ∷ p) [] = a + R * excess R p []
excess R (a ∷ p) (b ∷ q) = a + R * excess R p q - b

eval_sum : (p q : List ℕ) (x : ℕ) → eval (sum p q) x ≡ eval p x + eval q x
unfolding eval sum
eval_sum [] q x = sym (zero-add (eval q x))
eval_sum (a ∷ p) [] x = sym (add-zero (a + x * eval p x))
eval_sum (a ∷ p) (b ∷ q) x = rw (eval_sum p q x) (simp ring)

scaled : (k a x e : ℕ) → k * a + x * (k * e) ≡ k * (a + x * e)
scaled k a x e = simp ring

eval_multiple : (k : ℕ) (p : List ℕ) (x : ℕ) → eval (multiple k p) x ≡ k * eval p x
unfolding eval multiple
eval_multiple k [] x = sym (mul-zero k)
eval_multiple k (a ∷ p) x = rw (eval_multiple k p x) (scaled k a x (eval p x))

-- a number P - M that is the polynomial at ρ
pub record Is (ρ P M : ℕ) (s : Polynomial) : Type 0 where
  pub balance : P + eval s.minus ρ ≡ M + eval s.plus ρ

module _ (R n ρ : ℕ) (whole : n + ρ ≡ R) where
  shifted : (P M p q : ℕ) → P + q ≡ M + p → n * P + (R * q + (0 + ρ * p)) ≡ n * M + (R * p + (0 + ρ * q))
  shifted P M p q h = rw (← whole) (simp ring (omega (arith, simp ring at (ap (λ (y : ℕ). n * y) h))))

  pub by_n_is : (P M : ℕ) (s : Polynomial) → Is ρ P M s → Is ρ (n * P) (n * M) (by_n R s)
  unfolding eval
  by_n_is P M s h =
      record {
        balance = rw (eval_sum (multiple R s.minus) (0 ∷ s.plus) ρ, eval_sum (multiple R s.plus) (0 ∷ s.minus) ρ, eval_multiple R s.minus ρ, eval_multiple R s.plus ρ)
            (shifted P M (eval s.plus ρ) (eval s.minus ρ) h.balance);
      }

  step_is : (k P M : ℕ) (s : Polynomial) → Is ρ P M s → Is ρ (k + n * n * M) (n * n * P) (step R k s)
  unfolding eval
  step_is k P M s h =
      let w = by_n R (by_n R s) in
      let b = (by_n_is (n * P) (n * M) (by_n R s) (by_n_is P M s h)).balance in
      record { balance = rw (eval_sum (k ∷ []) w.minus ρ) (omega (arith, mul_assoc n n P, mul_assoc n n M)) }

  pub turned_is : (T : ℕ) (ds : List ℕ) → Is ρ (nested T (n * n) ds).p (nested T (n * n) ds).m (turned R T ds)
  unfolding eval turned
  turned_is T [] = record { balance = omega arith }
  turned_is T (d ∷ ds) =
      rw (scale_is T (n * n) ds) (step_is (scale T (d ∷ ds)) _ _ (turned R T ds) (turned_is T ds))

  excess_is : (p q : List ℕ) → eval p ρ ≤ eval q ρ + excess R p q
  unfolding eval excess
  excess_is [] q = omega arith
  excess_is (a ∷ p) [] =
      let ih : eval p ρ ≤ 0 + excess R p [] = excess_is p [] in
      let k : eval p ρ ≤ excess R p [] = omega arith in
      let h : ρ ≤ R = omega arith in
      omega (arith, mul-le-mul h k)
  excess_is (a ∷ p) (b ∷ q) =
      let ih = excess_is p q in
      let h : ρ ≤ R = omega arith in
      omega (arith, simp ring at (mul-le-mul_left ρ ih), mul-le-mul_right (excess R p q) h)

  -- n times the nested sum is at most this
  pub bounded : (T : ℕ) (ds : List ℕ) → n * (nested T (n * n) ds).p ≤ n * (nested T (n * n) ds).m + excess R (by_n R (turned R T ds)).plus (by_n R (turned R T ds)).minus
  bounded T ds =
      let s = by_n R (turned R T ds) in
      omega (arith, (by_n_is _ _ (turned R T ds) (turned_is T ds)).balance, excess_is s.plus s.minus)
