-- No Taylor sum is above 1 by as much as 4 units in the first quarter, so that the cap keeps what holds of the product. Assumes nothing.
use mathlib.Core.Path.{◌≡◌, sym, ap, ◌∙◌}
use mathlib.Core.List.{List, [], ◌∷◌}
use Prim.Native.Nat.{ℕ, min, ◌+◌, ◌*◌, ◌-◌, ◌^◌, ◌≤◌}
use native.Mathlib.Decide.{dec_le}
use native.Mathlib.Nat.{min-eq_left, min-eq_right, le_of_lt, lt_of_not-le, mul-le-mul_left, mul-le-mul_right, add-mul, sub-add_cancel, add_comm}
use native.Mathlib.Omega.{arith}
use lib.Dec.{leb→le}
use Rattle.integer.proofs.Ring.{ring}
use Rattle.trig.specs.Sine.{uncapped, quarter_sine}
use Rattle.trig.specs.ExactSine.{D, pi_low, pi_high, denominator, Fraction, quarter_end19, quarter_end17, Near}
use Rattle.trig.proofs.Steps.{divisors}
use Rattle.trig.proofs.Taylor.{plus19, minus19, plus17, minus17, uncapped_near19, uncapped_near17}
use Rattle.trig.proofs.Turned.{by_n, sum, multiple, turned, excess, bounded}

-- the greatest excess of a sum, from its divisors and the end R of its range
abbrev top : ℕ → List ℕ → ℕ
top R ds = let s = by_n R (turned R (D * D) (divisors ds)) in excess R s.plus s.minus

top19 : 2 ^ 30 * top (2 ^ 30 * pi_low) (272 ∷ 342 ∷ []) ≤ (2 ^ 30 + 4) * denominator 19
unfolding turned sum multiple excess
top19 = leb→le _ _ tt

top17 : 2 ^ 30 * top (2 ^ 30 * pi_high) (272 ∷ []) ≤ (2 ^ 30 + 4) * denominator 17
unfolding turned sum multiple excess
top17 = leb→le _ _ tt

-- 2^30·f is at most 2^30 + 4
pub record Capped (f : Fraction) : Type 0 where
  pub capped : 2 ^ 30 * f.p ≤ (2 ^ 30 + 4) * f.d + 2 ^ 30 * f.m

weigh : (b P M d B : ℕ) → P ≤ M + d → b * d ≤ B → b * P ≤ B + b * M
weigh b P M d B h k = omega (arith, simp ring at (mul-le-mul_left b h))

parts : (r pi : ℕ) → r ≤ 2 ^ 30 → r * pi + (2 ^ 30 - r) * pi ≡ 2 ^ 30 * pi
parts r pi h =
    sym (add-mul r (2 ^ 30 - r) pi) ∙ ap (λ (y : ℕ). y * pi) (add_comm r (2 ^ 30 - r) ∙ sub-add_cancel h)

capped19 : (r : ℕ) → r ≤ 2 ^ 30 → Capped (quarter_end19 r)
unfolding quarter_end19
capped19 r h =
    let n : ℕ = r * pi_low in
    let R : ℕ = 2 ^ 30 * pi_low in
    let ds : List ℕ = 272 ∷ 342 ∷ [] in
    record {
      capped = rw (← plus19 n, ← minus19 n)
          (weigh (2 ^ 30) _ _ (top R ds) _ (bounded R n ((2 ^ 30 - r) * pi_low) (parts r pi_low h) (D * D) (divisors ds)) top19);
    }

capped17 : (r : ℕ) → r ≤ 2 ^ 30 → Capped (quarter_end17 r)
unfolding quarter_end17
capped17 r h =
    let n : ℕ = r * pi_high in
    let R : ℕ = 2 ^ 30 * pi_high in
    let ds : List ℕ = 272 ∷ [] in
    record {
      capped = rw (← plus17 n, ← minus17 n)
          (weigh (2 ^ 30) _ _ (top R ds) _ (bounded R n ((2 ^ 30 - r) * pi_high) (parts r pi_high h) (D * D) (divisors ds)) top17);
    }

-- the cap keeps what held of the product
cap : (s : ℕ) (f : Fraction) → Near s f → Capped f → Near (min s (2 ^ 30)) f
cap s f near top = either (dec_le s (2 ^ 30))
  where
    either : Dec (s ≤ 2 ^ 30) → Near (min s (2 ^ 30)) f
    either (yes h) = rw (min-eq_left h) near
    either (no g) =
        let lt : 2 ^ 30 ≤ s = le_of_lt (lt_of_not-le g) in
        rw (min-eq_right lt)
        (record { not_above = omega (arith, mul-le-mul_right f.d lt); not_below = omega (arith, add-mul (2 ^ 30) 4 f.d) })

-- the sine of an arc is within 4 units of both ends
pub quarter_near19 : (r : ℕ) → r ≤ 2 ^ 30 → Near (quarter_sine r) (quarter_end19 r)
unfolding quarter_sine
quarter_near19 r h = cap (uncapped r) (quarter_end19 r) (uncapped_near19 r h) (capped19 r h)

pub quarter_near17 : (r : ℕ) → r ≤ 2 ^ 30 → Near (quarter_sine r) (quarter_end17 r)
unfolding quarter_sine
quarter_near17 r h = cap (uncapped r) (quarter_end17 r) (uncapped_near17 r h) (capped17 r h)
