-- The number of some columns, one column after another. Assumes nothing.
use mathlib.Core.Path.{◌≡◌}
use mathlib.Core.Bool.{Bool, true, false, cond}
use mathlib.Core.List.{List}
use Prim.Native.Nat.{ℕ, zero, suc, ◌+◌, ◌*◌, ◌-◌, ◌^◌, ◌≤◌, ◌<◌}
use native.Mathlib.Nat.{pow-succ', one-le-pow, mul-le-mul_right, mul-le-mul_left, mul-le-mul, mul_assoc, mul-one, le_trans}
use native.Mathlib.Omega.{arith}
use Rattle.digit.specs.Digit.{digit_value}
use Rattle.digit.proofs.Range.{digit_small}
use Rattle.std.specs.Prelude.{Option, unwrap_or}
use Rattle.two_line_fields.specs.Decimals.{byte_of, number, bad, digit_or_blank, leads_on, further}

-- ---- column i of some columns, with the number of those ahead of it

module _ (line : List ℕ) (column columns i : ℕ) (leading : Bool) (m : ℕ) where
  abbrev byte : ℕ
  byte = byte_of line (column + i)

  left : i < columns → columns - i ≡ suc (columns - (i + 1))
  left h = omega arith

  pub column_taken : i < columns → digit_or_blank leading byte ≡ true → further line (column + (i + 1)) (columns - (i + 1)) (leads_on leading byte) (10 * m + digit_value byte) ≡ further line (column + i) (columns - i) leading m
  unfolding further
  column_taken h e =
      let on : column + (i + 1) ≡ column + i + 1 = omega arith in
      rw (left h, e, on)

  pub column_bad : i < columns → digit_or_blank leading byte ≡ false → bad ≡ further line (column + i) (columns - i) leading m
  unfolding further
  column_bad h e = rw (left h, e)

  pub all_taken : columns ≤ i → number m ≡ further line (column + i) (columns - i) leading m
  unfolding further
  all_taken h =
      let none : columns - i ≡ 0 = omega arith in
      rw none

-- ---- how large it is

-- m with a digit behind it
pub digit_behind : (m d n : ℕ) → d ≤ 9 → (10 * m + d + 1) * 10 ^ n ≤ (m + 1) * 10 ^ suc n
digit_behind m d n h =
    let more : 10 * m + d + 1 ≤ (m + 1) * 10 = omega arith in
    rw (pow-succ' 10 n, ← mul_assoc (m + 1) 10 (10 ^ n)) (mul-le-mul_right (10 ^ n) more)

-- room for the digits of the columns from i on is room for those behind it, and for one
pub room_behind : (m d columns i b : ℕ) → i < columns → d ≤ 9 → (m + 1) * 10 ^ (columns - i) ≤ b → (10 * m + d + 1) * 10 ^ (columns - (i + 1)) ≤ b
room_behind m d columns i b h l r =
    let left : columns - i ≡ suc (columns - (i + 1)) = omega arith in
    le_trans (digit_behind m d (columns - (i + 1)) l) (rw left at r)

-- what one column does
pub ruleset column_laws = (column_taken, column_bad, all_taken, room_behind, digit_small)

pub room_for_one : (m n b : ℕ) → 0 < n → (m + 1) * 10 ^ n ≤ b → (m + 1) * 10 ≤ b
room_for_one m zero b l r = elim l [ ]
room_for_one m (suc n) b l r =
    let one : 10 * 1 ≤ 10 * 10 ^ n = mul-le-mul_left 10 (one-le-pow n 10 (omega arith)) in
    le_trans (mul-le-mul_left (m + 1) (rw (← pow-succ' 10 n) at one)) r

-- a number, or none
pub small_either : (t : Bool) (d : Option ℕ) {b : ℕ} → unwrap_or d 0 + 1 ≤ b → 1 ≤ b → unwrap_or (cond t d bad) 0 + 1 ≤ b
small_either true d h l = h
small_either false d h l = l

pub further_small : (line : List ℕ) (column n : ℕ) (leading : Bool) (m : ℕ) → unwrap_or (further line column n leading m) 0 + 1 ≤ (m + 1) * 10 ^ n
unfolding further
further_small line column zero leading m = omega (arith, mul-one (m + 1))
further_small line column (suc n) leading m =
    let byte = byte_of line column in
    small_either (digit_or_blank leading byte) _ (le_trans (further_small line (column + 1) n (leads_on leading byte) (10 * m + digit_value byte)) (digit_behind m (digit_value byte) n (digit_small byte))) (mul-le-mul {n₁ = 1} {m₁ = 1} (omega arith) (one-le-pow (suc n) 10 (omega arith)))
