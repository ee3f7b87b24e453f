-- S by halves of the turn: every angle has an arc in the first quarter. Assumes nothing.
use mathlib.Core.Path.{◌≡◌, sym, ap, ◌∙◌}
use Prim.Native.Nat.{ℕ, zero, suc, min, ◌+◌, ◌*◌, ◌-◌, ◌/◌, ◌%◌, ◌^◌, ◌≤◌, ◌<◌}
use native.Mathlib.Nat.{lt_of_not-le, mod-lt, mod-mod, mod-eq_of_lt}
use native.Mathlib.Decide.{dec_lt}
use native.Mathlib.Omega.{arith}
use lib.Arith.{mod-mul}
use lib.IntN.{pos, neg_ℤ, nat_abs}
use Rattle.integer.specs.Bound.{Within}
use Rattle.integer.proofs.Sizes.{nat_abs_neg}
use Rattle.trig.specs.Sine.{quarter_sine, in_quarter, by_symmetry, S, C}
use Rattle.trig.proofs.Products.{quarter_sine_le}

-- how far a part of a turn is from the nearer of its ends and its half
abbrev pub arc_of : ℕ → ℕ
arc_of t = min (t % 2 ^ 31) (2 ^ 31 - t % 2 ^ 31)

-- the arc of an angle
unfoldable pub arc : ℕ → ℕ
arc a = arc_of (a % 2 ^ 32)

pub arc_le : (a : ℕ) → arc a ≤ 2 ^ 30
unfolding arc
arc_le a = let t : ℕ = a % 2 ^ 32 in omega arith

-- quarter q and rest r of the part t of a turn
upper_quarter {ℓ} : {A : Type ℓ} (f g : ℕ → A) (q r t : ℕ) → t ≡ q * 2 ^ 30 + r → r < 2 ^ 30 → t < 2 ^ 31 → in_quarter q r f g ≡ f (arc_of t)
unfolding in_quarter
upper_quarter f g zero r t e h k = let i : r ≡ arc_of t = omega arith in ap f i
upper_quarter f g (suc zero) r t e h k = let i : 2 ^ 30 - r ≡ arc_of t = omega arith in ap f i
upper_quarter f g (suc (suc q)) r t e h k = absurd (omega arith)

lower_quarter {ℓ} : {A : Type ℓ} (f g : ℕ → A) (q r t : ℕ) → t ≡ q * 2 ^ 30 + r → r < 2 ^ 30 → 2 ^ 31 ≤ t → t < 2 ^ 32 → in_quarter q r f g ≡ g (arc_of t)
unfolding in_quarter
lower_quarter f g zero r t e h k l = absurd (omega arith)
lower_quarter f g (suc zero) r t e h k l = absurd (omega arith)
lower_quarter f g (suc (suc zero)) r t e h k l = let i : r ≡ arc_of t = omega arith in ap g i
lower_quarter f g (suc (suc (suc q))) r t e h k l =
    let z : q ≡ 0 = omega arith in
    let m : t % 2 ^ 31 ≡ 2 ^ 30 + r = omega arith in
    let i : 2 ^ 30 - r ≡ arc_of t = omega arith in
    ap g i

module _ (a : ℕ) where
  parts : a % 2 ^ 32 ≡ a / 2 ^ 30 % 4 * 2 ^ 30 + a % 2 ^ 30
  parts = mod-mul a {m = 4} {c = 2 ^ 30} (omega arith) (omega arith)

  -- in the first half of the turn it is f at the arc, in the second g
  pub upper {ℓ} : {A : Type ℓ} (f g : ℕ → A) → a % 2 ^ 32 < 2 ^ 31 → by_symmetry a f g ≡ f (arc a)
  unfolding arc
  upper f g h = upper_quarter f g (a / 2 ^ 30 % 4) (a % 2 ^ 30) (a % 2 ^ 32) parts (mod-lt a (omega arith)) h

  pub lower {ℓ} : {A : Type ℓ} (f g : ℕ → A) → 2 ^ 31 ≤ a % 2 ^ 32 → by_symmetry a f g ≡ g (arc a)
  unfolding arc
  lower f g h = lower_quarter f g (a / 2 ^ 30 % 4) (a % 2 ^ 30) (a % 2 ^ 32) parts (mod-lt a (omega arith)) h (mod-lt a (omega arith))

  pub S-upper : a % 2 ^ 32 < 2 ^ 31 → S a ≡ pos (quarter_sine (arc a))
  unfolding S
  S-upper = upper (λ r. pos (quarter_sine r)) (λ r. neg_ℤ (pos (quarter_sine r)))

  pub S-lower : 2 ^ 31 ≤ a % 2 ^ 32 → S a ≡ neg_ℤ (pos (quarter_sine (arc a)))
  unfolding S
  S-lower = lower (λ r. pos (quarter_sine r)) (λ r. neg_ℤ (pos (quarter_sine r)))

-- |S| is the sine of the arc
pub magnitude_is : (a : ℕ) → nat_abs (S a) ≡ quarter_sine (arc a)
magnitude_is a = either (dec_lt (a % 2 ^ 32) (2 ^ 31))
  where
    either : Dec (a % 2 ^ 32 < 2 ^ 31) → nat_abs (S a) ≡ quarter_sine (arc a)
    either (yes h) = ap nat_abs (S-upper a h)
    either (no f) = ap nat_abs (S-lower a (omega (arith, lt_of_not-le f))) ∙ nat_abs_neg (pos (quarter_sine (arc a)))

-- S from its magnitude, by halves of the turn
pub magnitude_upper : (a : ℕ) → a < 2 ^ 31 → S a ≡ pos (nat_abs (S a))
magnitude_upper a h =
    let w : a % 2 ^ 32 ≡ a = mod-eq_of_lt (omega arith) in
    S-upper a (rw w h) ∙ ap pos (sym (magnitude_is a))

pub magnitude_lower : (a : ℕ) → 2 ^ 31 ≤ a → a < 2 ^ 32 → S a ≡ neg_ℤ (pos (nat_abs (S a)))
magnitude_lower a h l =
    let w : a % 2 ^ 32 ≡ a = mod-eq_of_lt l in
    S-lower a (rw w h) ∙ ap (λ (n : ℕ). neg_ℤ (pos n)) (sym (magnitude_is a))

pub S-within : (a : ℕ) → Within (2 ^ 30) (S a)
S-within a = record { within = rw (magnitude_is a) (quarter_sine_le (arc a)) }

pub C-within : (a : ℕ) → Within (2 ^ 30) (C a)
unfolding C
C-within a = S-within ((a + 2 ^ 30) % 2 ^ 32)

-- whole turns make no difference
pub arc_wraps : (a : ℕ) → arc (a % 2 ^ 32) ≡ arc a
unfolding arc
arc_wraps a = rw (mod-mod a (2 ^ 32))

pub magnitude_wraps : (a : ℕ) → nat_abs (S (a % 2 ^ 32)) ≡ nat_abs (S a)
magnitude_wraps a = magnitude_is (a % 2 ^ 32) ∙ ap quarter_sine (arc_wraps a) ∙ sym (magnitude_is a)
