-- One halving of the interval of `width` angles that `from` lies in. Assumes nothing.
use Rattle.std.proofs.Common.{◌≡◌, ℕ, zero, suc, ◌+◌, ◌-◌, ◌*◌, ◌/◌, ◌%◌, ◌^◌, ◌<◌, ◌≤◌, max, sym, refl, ◌∙◌, add-mul, one-mul, lt_of_not-le, mul-add, div-mul-le_self, arith, le-leb}
use native.Mathlib.Decide.{dec_le}
use native.Mathlib.Nat.{pow-zero, two-pow-succ, div-eq_of_lt-le, lt-div-mul-add, one-le-pow}
use borrow.Author.Tests.{lt-leb}
use Rattle.kepler.specs.Contract.{Decides, DecidesAt, lower_end, raised_to}
use Rattle.kepler.specs.Kepler.{equation, halve}
use Rattle.kepler.proofs.Bracket.{halve_up, halve_down}

-- ---- `from`, raised to the middle where that becomes the lower end

module _ (e M from to middle : ℕ) (d : DecidesAt e M from to middle) where
  pub raised_up : from < middle → equation e middle ≤ M → middle ≡ raised_to e M from middle
  raised_up l k = rw (le-leb (equation e middle) M k) (omega arith)

  pub kept : M < equation e middle → from ≡ raised_to e M from middle
  kept k = rw (lt-leb (equation e middle) M k)

  kept_above : middle ≤ from → from ≡ raised_to e M from middle
  kept_above l = rw (le-leb (equation e middle) M (d.below l)) (omega arith)

  -- the test whether the middle lies between `from` and `to`, by its difference from `from`, which wraps
  module _ (beyond : ℕ) (hb : beyond < 2 ^ 64) (wraps : (beyond + (from + 1)) % 2 ^ 64 ≡ middle) where
    pub inside : beyond < to - from - 1 → from < middle
    inside l = omega (arith, d.small, d.fits)

    pub outside : to - from - 1 ≤ beyond → from ≡ raised_to e M from middle
    outside l = either (dec_le middle from)
      where
        either : Dec (middle ≤ from) → from ≡ raised_to e M from middle
        either (yes g) = kept_above g
        either (no f) = kept (d.above (omega (arith, lt_of_not-le f, d.middle_le)))

-- ---- one halving

-- the half that is left: `half` angles from the lower end `next` on, with r among them
pub record HalfLeft (e M to low left half next r : ℕ) : Type 0 where
  pub fits : next + half ≤ 2 ^ 32
  pub decides : Decides e M next r to
  pub is : (x : ℕ) → x ≡ halve e M next (left - 1) → x ≡ halve e M low left

rounded : (q half r : ℕ) → q * half ≤ r → r < q * half + half → lower_end half r ≡ q * half
rounded q half r l h =
    let i : r / half ≡ q = div-eq_of_lt-le half l (omega (arith, add-mul q 1 half, one-mul half)) in
    rw i

module _ (e M from to low half n q r : ℕ) (p : half ≡ 2 ^ n) (twice : low ≡ (q + q) * half) (lo : low ≤ from) (hi : from < low + half + half) (hm : low + half + half ≤ 2 ^ 32) (d : Decides e M low from to) (i : r ≡ raised_to e M from (low + half)) where
  less_one : suc n - 1 ≡ n
  less_one = omega arith

  went_up : equation e (low + half) ≤ M → HalfLeft e M to low (suc n) half (lower_end half r) r
  went_up k =
      let j : r ≡ max from (low + half) = rw (le-leb (equation e (low + half)) M k) at i in
      let more : (q + q + 1) * half ≡ low + half = rw (add-mul (q + q) 1 half, one-mul half, ← twice) in
      let end : lower_end half r ≡ low + half = rounded (q + q + 1) half r (omega arith) (omega arith) ∙ more in
      rw end (record {
        fits = hm;
        decides = record { small = omega (arith, d.small); fits = d.fits; below = below j; above = d.above };
        is = λ x j. rw (halve_up e M low n (rw (← p) k), ← p, ← less_one) j;
      })
    where
      below : r ≡ max from (low + half) → (E : ℕ) → low + half ≤ E → E ≤ r → equation e E ≤ M
      below j E l h = either (dec_le E from)
        where
          either : Dec (E ≤ from) → equation e E ≤ M
          either (yes g) = d.below E (omega arith) g
          either (no f) = let z : E ≡ low + half = omega (arith, lt_of_not-le f) in rw z k

  went_down : M < equation e (low + half) → HalfLeft e M to low (suc n) half (lower_end half r) r
  went_down k = either (dec_le (low + half) from)
    where
      either : Dec (low + half ≤ from) → HalfLeft e M to low (suc n) half (lower_end half r) r
      either (yes g) = absurd (omega (arith, d.below (low + half) (omega arith) g))
      either (no f) =
          let j : r ≡ from = rw (lt-leb (equation e (low + half)) M k) at i in
          let end : lower_end half from ≡ low = rounded (q + q) half from (omega arith) (omega (arith, lt_of_not-le f)) ∙ sym twice in
          rw (j, end) (record { fits = omega arith; decides = d; is = λ x j. rw (halve_down e M low n (rw (← p) k), ← less_one) j })

  went : Dec (equation e (low + half) ≤ M) → HalfLeft e M to low (suc n) half (lower_end half r) r
  went (yes k) = went_up k
  went (no f) = went_down (lt_of_not-le f)

pub record HalfWidth (left width : ℕ) : Type 0 where
  pub power : width / 2 ≡ 2 ^ (left - 1)
  pub twice : width / 2 + width / 2 ≡ width
  pub falls : left - 1 < left

pub half_width : (left width : ℕ) → (left ≡ 0 → ⊥) → width ≡ 2 ^ left → HalfWidth left width
half_width zero width f e = absurd (f refl)
half_width (suc n) width f e =
    let p : suc n - 1 ≡ n = omega arith in
    let t : width ≡ 2 ^ n + 2 ^ n = e ∙ two-pow-succ n in
    record { power = rw p (omega arith); twice = omega arith; falls = omega arith }

pub halved : (e M from to width left r : ℕ) → (left ≡ 0 → ⊥) → width ≡ 2 ^ left → lower_end width from + width ≤ 2 ^ 32 → Decides e M (lower_end width from) from to → r ≡ raised_to e M from (lower_end width from + width / 2) → HalfLeft e M to (lower_end width from) left (width / 2) (lower_end (width / 2) r) r
halved e M from to width zero r f p fits d i = absurd (f refl)
halved e M from to width (suc n) r f p fits d i =
    let h = half_width (suc n) width f p in
    let q : ℕ = from / width in
    let m : suc n - 1 ≡ n = omega arith in
    let some : zero < width = omega (arith, one-le-pow (suc n) 2 (omega arith)) in
    let t : q * width ≡ (q + q) * (width / 2) = rw (add-mul q q (width / 2), ← mul-add q (width / 2) (width / 2), h.twice) in
    went e M from to (lower_end width from) (width / 2) n q r (rw m at h.power) t (div-mul-le_self from width) (omega (arith, h.twice, lt-div-mul-add {a = from} some)) (omega (arith, h.twice)) d i (dec_le (equation e (lower_end width from + width / 2)) M)

pub none_left : (e M from width left : ℕ) → left ≡ 0 → width ≡ 2 ^ left → from ≡ halve e M (lower_end width from) left
unfolding halve
none_left e M from width left i p = rw (p, i, pow-zero 2, halve) (omega arith)

-- the window decides at the middle
module _ (e M from to width : ℕ) (fits : lower_end width from + width ≤ 2 ^ 32) (d : Decides e M (lower_end width from) from to) where
  from_before : Dec (to ≤ from) → from < to
  from_before (yes l) =
      absurd (omega (arith, d.below from (div-mul-le_self from width) (omega arith), d.above from l (omega (arith, d.small))))
  from_before (no f) = lt_of_not-le f

  pub decides_at : DecidesAt e M from to (lower_end width from + width / 2)
  decides_at =
      record {
        small = d.small;
        before = from_before (dec_le to from);
        fits = d.fits;
        middle_le = omega arith;
        below = λ l. d.below (lower_end width from + width / 2) (omega arith) l;
        above = λ l. d.above (lower_end width from + width / 2) l (omega arith);
      }

-- ---- the code's lower end: that of a shift, and at first 0

pub shifted : (from width left : ℕ) → width ≡ 2 ^ left → from / 2 ^ left * width ≡ lower_end width from
shifted from width left p = rw (← p)

pub lower_end_le : (from width : ℕ) → lower_end width from ≤ from
lower_end_le from width = div-mul-le_self from width

module _ (e M from to : ℕ) (d : Decides e M 0 from to) where
  whole_turn : lower_end (2 ^ 32) from ≡ 0
  whole_turn = omega (arith, d.small)

  pub decides_turn : Decides e M (lower_end (2 ^ 32) from) from to
  decides_turn = rw whole_turn d

  pub halved_turn : (r : ℕ) → r ≡ halve e M (lower_end (2 ^ 32) from) 32 → r ≡ halve e M 0 32
  halved_turn r i = rw whole_turn at i
