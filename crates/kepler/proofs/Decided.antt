-- The window round a guess, whatever the guess is: to its one end k is at most M, and from its other end on k is above M. Assumes nothing.
use Rattle.std.proofs.Common.{◌≡◌, ℕ, ◌+◌, ◌-◌, ◌*◌, ◌/◌, ◌^◌, ◌<◌, ◌≤◌, mul-le-mul_right, mul_comm, add-mul, one-mul, lt_of_not-le, mul-add, div-le_self, arith}
use native.Mathlib.Decide.{dec_le}
use native.Mathlib.Nat.{lt-div-mul-add}
use Rattle.kepler.specs.Kepler.{equation}
use Rattle.kepler.specs.Contract.{Reaches, slack, Around, Decides}
use Rattle.kepler.proofs.Halves.{k_zero}
use Rattle.kepler.proofs.Rises.{k_rises, k_rises_middle}

pub reached : (part cuts need have d : ℕ) → 1 ≤ part → cuts ≤ 38_450_000 → need ≤ 2 ^ 33 → d ≡ need * 10 ^ 7 + cuts - have * 10 ^ 7 → Reaches part cuts need have (d / part + 1)
reached part cuts need have d p hs hn i =
    let m : (d / part + 1) * part ≡ d / part * part + 1 * part = add-mul (d / part) 1 part in
    record { reaches = omega (arith, m, one-mul part, lt-div-mul-add {a = d} p); some = omega arith; small = omega (arith, div-le_self d part) }

-- w angles of which the part 10^7 - share counts
shared : (share w : ℕ) → share ≤ 9_000_001 → share * w + w * (10 ^ 7 - share) ≡ w * 10 ^ 7
shared share w h =
    let t : share + (10 ^ 7 - share) ≡ 10 ^ 7 = omega arith in
    rw (mul_comm share w, ← mul-add w share (10 ^ 7 - share), t)

-- a way of w angles takes k at least `more` angles' worth beyond what `enough` angles give
beyond : (share w enough more : ℕ) → share ≤ 9_000_001 → enough + more ≤ w → share * w + enough * (10 ^ 7 - share) + more * (10 ^ 7 - share) ≤ w * 10 ^ 7
beyond share w enough more h l =
    let m : enough * (10 ^ 7 - share) + more * (10 ^ 7 - share) ≤ w * (10 ^ 7 - share) = rw (← add-mul enough more (10 ^ 7 - share)) (mul-le-mul_right (10 ^ 7 - share) l) in
    omega (arith, shared share w h)

-- where k rises so between the angles lo and hi, among which the guess is
module _ (e share M G from to lo hi : ℕ) (h : share ≤ 9_000_001) (a : Around e share M G from to) (hlo : lo ≤ G) (hhi : G ≤ hi) (rises : (E w : ℕ) → lo ≤ E → E + w ≤ hi → equation e E * 10 ^ 7 + w * 10 ^ 7 < equation e (E + w) * 10 ^ 7 + share * w + slack e) where
  from_above : (E more : ℕ) → to + more ≤ E → E ≤ hi → M * 10 ^ 7 + more * (10 ^ 7 - share) < equation e E * 10 ^ 7
  from_above E more l h_e =
      let i : G + (E - G) ≡ E = omega (arith, a.to_is) in
      let r = rw i at (rises G (E - G) hlo (omega arith)) in
      omega (arith, r, a.above.reaches, beyond share (E - G) a.up more h (omega (arith, a.to_is)))

  to_below : (E more : ℕ) → E + more ≤ from → lo ≤ E → equation e E * 10 ^ 7 + more * (10 ^ 7 - share) < (M + 1) * 10 ^ 7
  to_below E more l h_e = either (dec_le a.down G)
    where
      either : Dec (a.down ≤ G) → equation e E * 10 ^ 7 + more * (10 ^ 7 - share) < (M + 1) * 10 ^ 7
      either (yes d) =
          let i : E + (G - E) ≡ G = omega (arith, a.from_is) in
          let r = rw i at (rises E (G - E) h_e (omega arith)) in
          omega (arith, r, a.below.reaches, beyond share (G - E) a.down more h (omega (arith, a.from_is)))
      either (no f) =
          let z : E ≡ 0 = omega (arith, a.from_is, lt_of_not-le f) in
          let z' : more ≡ 0 = omega (arith, a.from_is, lt_of_not-le f) in
          rw (z, z') (omega (arith, k_zero e))

-- at most the global share of the way is lost
not_much : (e w : ℕ) → e ≤ 9_000_000 → (e + 1) * w ≤ w * 10 ^ 7
not_much e w he = let l : e + 1 ≤ 10 ^ 7 = omega arith in rw (mul_comm w (10 ^ 7)) (mul-le-mul_right w l)

module _ (e M G from to : ℕ) (he : e ≤ 9_000_000) (h_g : G ≤ 2 ^ 32) where
  pub decides : Around e (e + 1) M G from to → Decides e M 0 from to
  decides a = record { small = omega (arith, a.from_is, a.below.some); fits = omega (arith, a.to_is, a.above.small); below = below; above = above }
    where
      rises : (E w : ℕ) → 0 ≤ E → E + w ≤ 2 ^ 32 → equation e E * 10 ^ 7 + w * 10 ^ 7 < equation e (E + w) * 10 ^ 7 + (e + 1) * w + slack e
      rises E w l h_e = k_rises e E w he h_e

      above : (E : ℕ) → to ≤ E → E ≤ 2 ^ 32 → M < equation e E
      above E l h_e =
          omega (arith, from_above e (e + 1) M G from to 0 (2 ^ 32) (omega arith) a (omega arith) h_g rises E 0 (omega arith) h_e)

      below : (E : ℕ) → 0 ≤ E → E ≤ from → equation e E ≤ M
      below E z l =
          omega (arith, to_below e (e + 1) M G from to 0 (2 ^ 32) (omega arith) a (omega arith) h_g rises E 0 (omega arith) z)

  -- a window that lies in the second and the third quarter, 8 angles from their ends
  pub decides_middle : Around e (e / 3 + 1) M G from to → 2 ^ 30 + 8 ≤ from → to + 8 ≤ 3 * 2 ^ 30 → Decides e M 0 from to
  decides_middle a lo hi = record { small = omega (arith, a.from_is, a.below.some); fits = omega (arith, a.to_is, a.above.small); below = below; above = above }
    where
      rises : (E w : ℕ) → 2 ^ 30 ≤ E → E + w ≤ 3 * 2 ^ 30 → equation e E * 10 ^ 7 + w * 10 ^ 7 < equation e (E + w) * 10 ^ 7 + (e / 3 + 1) * w + slack e
      rises E w l h_e = k_rises_middle e E w he l h_e

      near_above : (E more : ℕ) → to + more ≤ E → E ≤ 3 * 2 ^ 30 → M * 10 ^ 7 + more * (10 ^ 7 - (e / 3 + 1)) < equation e E * 10 ^ 7
      near_above = from_above e (e / 3 + 1) M G from to (2 ^ 30) (3 * 2 ^ 30) (omega arith) a (omega (arith, a.from_is)) (omega (arith, a.to_is)) rises

      near_below : (E more : ℕ) → E + more ≤ from → 2 ^ 30 ≤ E → equation e E * 10 ^ 7 + more * (10 ^ 7 - (e / 3 + 1)) < (M + 1) * 10 ^ 7
      near_below = to_below e (e / 3 + 1) M G from to (2 ^ 30) (3 * 2 ^ 30) (omega arith) a (omega (arith, a.from_is)) (omega (arith, a.to_is)) rises

      above : (E : ℕ) → to ≤ E → E ≤ 2 ^ 32 → M < equation e E
      above E l h_e = either (dec_le E (3 * 2 ^ 30))
        where
          either : Dec (E ≤ 3 * 2 ^ 30) → M < equation e E
          either (yes n) = omega (arith, near_above E 0 (omega arith) n)
          either (no f) =
              let w : ℕ = E - 3 * 2 ^ 30 in
              let i : 3 * 2 ^ 30 + w ≡ E = omega (arith, lt_of_not-le f) in
              let r = rw i at (k_rises e (3 * 2 ^ 30) w he (omega (arith, i))) in
              omega (arith, r, not_much e w he, near_above (3 * 2 ^ 30) 8 hi (omega arith))

      below : (E : ℕ) → 0 ≤ E → E ≤ from → equation e E ≤ M
      below E z l = either (dec_le (2 ^ 30) E)
        where
          either : Dec (2 ^ 30 ≤ E) → equation e E ≤ M
          either (yes n) = omega (arith, near_below E 0 (omega arith) n)
          either (no f) =
              let w : ℕ = 2 ^ 30 - E in
              let i : E + w ≡ 2 ^ 30 = omega (arith, lt_of_not-le f) in
              let r = rw i at (k_rises e E w he (omega (arith, i))) in
              omega (arith, r, not_much e w he, near_below (2 ^ 30) 8 lo (omega arith))
