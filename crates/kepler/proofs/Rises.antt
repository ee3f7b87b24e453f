-- k from one angle to another: it rises by at least the part 1 - e/10^7 of the way, less the cuts, and in the second and the third quarter by the
-- part 1 - e/(3·10^7). Assumes nothing.
use Rattle.std.proofs.Common.{◌≡◌, ℕ, ◌+◌, ◌*◌, ◌/◌, ◌^◌, ◌<◌, ◌≤◌, min, nat_abs, mul-le-mul_right, mul_assoc, add-mul, mul-le-mul_left, one-mul, lt_of_not-le, arith}
use native.Mathlib.Decide.{dec_lt}
use Rattle.integer.proofs.Ring.{ring}
use Rattle.trig.specs.Sine.{S}
use Rattle.trig.proofs.Slope.{Rising, magnitude_sloped, magnitude_second, magnitude_third}
use Rattle.kepler.specs.Kepler.{g, h, equation}
use Rattle.kepler.specs.Contract.{slack}
use Rattle.kepler.proofs.Halves.{cuts, h_le, k_upper, k_lower}

-- the cuts from one magnitude to another, one after the other; q is what the way gives to the sine, and y to the angle
sine_rises : (q x x' n n' e : ℕ) → 6 * (n' * 2 ^ 30) ≤ 6 * (n * 2 ^ 30) + q + 23 * 2 ^ 30 * e → x' * 10 ^ 7 ≤ n' → n ≤ x * 10 ^ 7 + 10 ^ 7 → 6 * (x' * 10 ^ 7 * 2 ^ 30) ≤ 6 * (x * 10 ^ 7 * 2 ^ 30) + 6 * (10 ^ 7 * 2 ^ 30) + q + 23 * 2 ^ 30 * e
sine_rises q x x' n n' e a low high = omega arith

product_rises : (q y x x' e : ℕ) → q * 683_565_276 ≤ 6 * (y * 2 ^ 60) → 6 * (x' * 10 ^ 7 * 2 ^ 30) ≤ 6 * (x * 10 ^ 7 * 2 ^ 30) + 6 * (10 ^ 7 * 2 ^ 30) + q + 23 * 2 ^ 30 * e → 6 * (x' * 683_565_276 * 10 ^ 7) ≤ 6 * (x * 683_565_276 * 10 ^ 7) + 6 * (683_565_276 * 10 ^ 7) + 6 * (y * 2 ^ 30) + 23 * 683_565_276 * e
product_rises q y x x' e hq a = omega arith

quotient_rises : (y n n' x x' e : ℕ) → 6 * (n' * 10 ^ 7) ≤ 6 * (n * 10 ^ 7) + 6 * (683_565_276 * 10 ^ 7) + 6 * (y * 2 ^ 30) + 23 * 683_565_276 * e → x' * 2 ^ 30 ≤ n' → n ≤ x * 2 ^ 30 + 2 ^ 30 → x' * 10 ^ 7 < x * 10 ^ 7 + y + slack e
quotient_rises y n n' x x' e a low high = omega arith

h_rises : (e E E' q y : ℕ) → 6 * (e * nat_abs (S E') * 2 ^ 30) ≤ 6 * (e * nat_abs (S E) * 2 ^ 30) + q + 23 * 2 ^ 30 * e → q * 683_565_276 ≤ 6 * (y * 2 ^ 60) → h e E' * 10 ^ 7 < h e E * 10 ^ 7 + y + slack e
h_rises e E E' q y a hq =
    let c = cuts e E in
    let c' = cuts e E' in
    quotient_rises y _ _ (h e E) (h e E') e (product_rises q y (g e E) (g e E') e hq (sine_rises q (g e E) (g e E') _ _ e a c'.g_low c.g_high)) c'.h_low c.h_high

-- the product of the two constants, 1_686_629_713 of the sine and 683_565_276 of h, is 2^60 and little more
constants : (n : ℕ) → n * 1_686_629_713 * 683_565_276 ≡ n * 2 ^ 60 + n * 669_798_812
constants n = omega arith

little : (n w : ℕ) → n ≤ 9_000_000 * w → n * 669_798_812 ≤ w * 2 ^ 60
little n w l = omega arith

whole_sum : (u v x z t : ℕ) → u ≡ v + x → x ≤ z → t ≡ v + z → 6 * u ≤ 6 * t
whole_sum u v x z t i l j = omega arith

third_sum : (u v x z t : ℕ) → u ≡ v + x → x ≤ z → v + z ≤ 3 * t → 2 * u ≤ 6 * t
third_sum u v x z t i l j = omega arith

whole_share : (n w y : ℕ) → n ≤ 9_000_000 * w → y ≡ n + w → 6 * (n * 1_686_629_713) * 683_565_276 ≤ 6 * (y * 2 ^ 60)
whole_share n w y l i =
    rw (mul_assoc 6 (n * 1_686_629_713) 683_565_276)
    (whole_sum _ (n * 2 ^ 60) (n * 669_798_812) (w * 2 ^ 60) (y * 2 ^ 60) (constants n) (little n w l) (rw (i, add-mul n w (2 ^ 60))))

third_share : (n w y : ℕ) → n ≤ 9_000_000 * w → n + w ≤ 3 * y → 2 * (n * 1_686_629_713) * 683_565_276 ≤ 6 * (y * 2 ^ 60)
third_share n w y l i =
    rw (mul_assoc 2 (n * 1_686_629_713) 683_565_276)
    (third_sum _ (n * 2 ^ 60) (n * 669_798_812) (w * 2 ^ 60) (y * 2 ^ 60) (constants n) (little n w l) (rw (← add-mul n w (2 ^ 60), ← mul_assoc 3 y (2 ^ 60)) (mul-le-mul_right (2 ^ 60) i)))

module _ (e E E' w : ℕ) (he : e ≤ 9_000_000) where
  few : e * w ≤ 9_000_000 * w
  few = mul-le-mul_right w he

  h_sloped : nat_abs (S E') * 2 ^ 30 ≤ nat_abs (S E) * 2 ^ 30 + (min w (2 ^ 30) * 1_686_629_713 + 3 * 2 ^ 30) → h e E' * 10 ^ 7 < h e E * 10 ^ 7 + (e + 1) * w + slack e
  h_sloped s =
      let s' : nat_abs (S E') * 2 ^ 30 ≤ nat_abs (S E) * 2 ^ 30 + (w * 1_686_629_713 + 3 * 2 ^ 30) = omega arith in
      let a : e * nat_abs (S E') * 2 ^ 30 ≤ e * nat_abs (S E) * 2 ^ 30 + e * w * 1_686_629_713 + 3 * 2 ^ 30 * e =
      simp ring (simp ring at (mul-le-mul_left e s')) in
      let y : (e + 1) * w ≡ e * w + w = simp (add-mul, one-mul) in
      h_rises e E E' (6 * (e * w * 1_686_629_713)) ((e + 1) * w) (omega arith) (whole_share (e * w) w ((e + 1) * w) few y)

  h_rising : Rising w (nat_abs (S E')) (nat_abs (S E)) → h e E' * 10 ^ 7 < h e E * 10 ^ 7 + (e / 3 + 1) * w + slack e
  h_rising s =
      let a : 6 * (e * nat_abs (S E') * 2 ^ 30) ≤ 6 * (e * nat_abs (S E) * 2 ^ 30) + 2 * (e * w * 1_686_629_713) + 23 * 2 ^ 30 * e =
      simp ring (simp ring at (mul-le-mul_left e s)) in
      let t : e + 1 ≤ 3 * (e / 3 + 1) = omega arith in
      let y : e * w + w ≤ 3 * ((e / 3 + 1) * w) = omega (arith, simp (add-mul, one-mul, mul_assoc) at (mul-le-mul_right w t), mul_assoc 3 (e / 3 + 1) w) in
      h_rises e E E' (2 * (e * w * 1_686_629_713)) ((e / 3 + 1) * w) a (third_share (e * w) w ((e / 3 + 1) * w) few y)

-- from h to k, which has h with the sign of the half of the turn
module _ (e E w y : ℕ) (he : e ≤ 9_000_000) (h_e : E + w ≤ 2 ^ 32) (up : E + w < 2 ^ 31 → h e (E + w) * 10 ^ 7 < h e E * 10 ^ 7 + y + slack e) (down : 2 ^ 31 ≤ E → h e E * 10 ^ 7 < h e (E + w) * 10 ^ 7 + y + slack e) where
  k_from_h : Dec (E + w < 2 ^ 31) → Dec (E < 2 ^ 31) → equation e E * 10 ^ 7 + w * 10 ^ 7 < equation e (E + w) * 10 ^ 7 + y + slack e
  k_from_h (yes u) d =
      omega (arith, up u, k_upper e (E + w) u, k_upper e E (omega arith), h_le e E he, h_le e (E + w) he)
  k_from_h (no f) (yes u) =
      omega (arith, k_lower e (E + w) (omega (arith, lt_of_not-le f)) h_e, k_upper e E u)
  k_from_h (no f) (no f') =
      let l : 2 ^ 31 ≤ E = omega (arith, lt_of_not-le f') in
      omega (arith, down l, k_lower e (E + w) (omega arith) h_e, k_lower e E l (omega arith))

pub k_rises : (e E w : ℕ) → e ≤ 9_000_000 → E + w ≤ 2 ^ 32 → equation e E * 10 ^ 7 + w * 10 ^ 7 < equation e (E + w) * 10 ^ 7 + (e + 1) * w + slack e
k_rises e E w he h_e =
    let s = magnitude_sloped E w in
    k_from_h e E w ((e + 1) * w) he h_e (λ u. h_sloped e E (E + w) w he s.right) (λ l. h_sloped e (E + w) E w he s.left) (dec_lt (E + w) (2 ^ 31)) (dec_lt E (2 ^ 31))

pub k_rises_middle : (e E w : ℕ) → e ≤ 9_000_000 → 2 ^ 30 ≤ E → E + w ≤ 3 * 2 ^ 30 → equation e E * 10 ^ 7 + w * 10 ^ 7 < equation e (E + w) * 10 ^ 7 + (e / 3 + 1) * w + slack e
k_rises_middle e E w he l h_e =
    k_from_h e E w ((e / 3 + 1) * w) he (omega arith) (λ u. h_rising e E (E + w) w he (magnitude_second E w l (omega arith))) (λ m. h_rising e (E + w) E w he (magnitude_third E w m h_e)) (dec_lt (E + w) (2 ^ 31)) (dec_lt E (2 ^ 31))
