-- The number of a layout's columns. Assumes nothing.
use mathlib.Core.Path.{◌≡◌, refl}
use mathlib.Core.Bool.{Bool, true, false, not, ◌&&◌, cond}
use mathlib.Core.List.{List}
use Prim.Native.Nat.{ℕ, ◌+◌, ◌*◌, ◌^◌, ◌≤◌}
use native.Mathlib.Nat.{pow-le-pow_right, one-le-pow, mul-le-mul_right, le_trans, one-mul}
use native.Mathlib.Omega.{arith}
use lib.Dec.{eqb}
use lib.Pow.{pow-add}
use Rattle.std.specs.Int.{from_bool}
use Rattle.std.specs.Prelude.{Option, None, Some, unwrap_or, option_and_then}
use Rattle.two_line_fields.specs.declared.Layout.{Layout}
use Rattle.two_line_fields.specs.Contract.{Room, InLine}
use Rattle.two_line_fields.specs.Decimals.{byte_of, bad, further, is_sign, width, decimal_of}
use Rattle.two_line_fields.proofs.Digits.{further_small}

pub width_from : (stands : Bool) → from_bool stands ≡ width stands
width_from true = refl
width_from false = refl

pub width_small : (stands : Bool) → width stands ≤ 1
width_small true = omega arith
width_small false = omega arith

module _ (line : List ℕ) (column : ℕ) (l : Layout) where
  -- where its columns ahead of the point, its point, and those behind it begin
  abbrev pub ahead : ℕ
  ahead = column + width l.sign

  abbrev pub point : ℕ
  point = ahead + l.ahead

  abbrev pub behind : ℕ
  behind = point + width l.point

-- ---- how large it is

pub power_small : (n : ℕ) → n ≤ 11 → 10 ^ n ≤ 10 ^ 18
power_small n h = pow-le-pow_right (omega arith) {i = n} {j = 18} (omega arith)

module _ (line : List ℕ) (column a b : ℕ) (blanks : Bool) where
  abbrev whole : ℕ
  whole = unwrap_or (further line column a blanks 0) 0

  whole_small : whole + 1 ≤ 10 ^ a
  whole_small = omega (arith, further_small line column a blanks 0, one-mul (10 ^ a))

  pub digits_small : (whole + 1) * 10 ^ b ≤ 10 ^ (a + b)
  digits_small = rw (pow-add 10 a b) (mul-le-mul_right (10 ^ b) whole_small)

pub room_ahead : (column : ℕ) (l : Layout) → InLine column l → Room (column + width l.sign) l.ahead 0
room_ahead column l h =
    record {
      from = omega (arith, h.from);
      near = omega (arith, h.to, h.digits, width_small l.sign);
      digits = le_trans (omega (arith, one-mul (10 ^ l.ahead))) (power_small l.ahead (omega (arith, h.digits)));
    }

pub room_behind_point : (line : List ℕ) (column : ℕ) (l : Layout) → InLine column l → Room (behind line column l) l.behind (unwrap_or (further line (ahead line column l) l.ahead l.blanks 0) 0)
room_behind_point line column l h =
    record {
      from = omega (arith, h.from);
      near = omega (arith, h.to, h.digits, width_small l.sign, width_small l.point);
      digits = le_trans (digits_small line (ahead line column l) l.ahead l.behind l.blanks) (power_small (l.ahead + l.behind) h.digits);
    }

none_or : (t : Bool) (d : Option ℕ) {b : ℕ} → 1 ≤ b → unwrap_or d 0 + 1 ≤ b → unwrap_or (cond t bad d) 0 + 1 ≤ b
none_or true d l h = l
none_or false d l h = h

and_then_small : (o : Option ℕ) (f : ℕ → Option ℕ) {b : ℕ} → 1 ≤ b → unwrap_or (f (unwrap_or o 0)) 0 + 1 ≤ b → unwrap_or (option_and_then f o) 0 + 1 ≤ b
and_then_small None f l h = l
and_then_small (Some m) f l h = h

pub decimal_small : (line : List ℕ) (column : ℕ) (l : Layout) → unwrap_or (decimal_of line column l) 0 + 1 ≤ 10 ^ (l.ahead + l.behind)
unfolding decimal_of
decimal_small line column l =
    let least : 1 ≤ 10 ^ (l.ahead + l.behind) = one-le-pow (l.ahead + l.behind) 10 (omega arith) in
    let w = further line (ahead line column l) l.ahead l.blanks 0 in
    let small = le_trans (further_small line (behind line column l) l.behind false (unwrap_or w 0)) (digits_small line (ahead line column l) l.ahead l.behind l.blanks) in
    none_or (l.sign && not (is_sign (byte_of line column))) _ least (none_or (l.point && not (eqb (byte_of line (point line column l)) 46)) _ least (and_then_small w (further line (behind line column l) l.behind false) least small))
