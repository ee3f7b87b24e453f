-- How large the numbers of the fields are. Assumes nothing.
use mathlib.Core.Path.{◌≡◌, refl}
use mathlib.Core.Bool.{Bool, true, false, cond}
use mathlib.Core.List.{List}
use Prim.Native.Nat.{ℕ, ◌+◌, ◌/◌, ◌^◌, ◌≤◌, ◌<◌}
use native.Mathlib.Nat.{one-le-pow}
use native.Mathlib.Omega.{arith}
use borrow.Author.Tests.{ltb-true, ltb-false}
use lib.Dec.{ltb}
use Rattle.std.specs.Prelude.{Option, unwrap_or}
use Rattle.two_line_fields.specs.declared.columns.Field.{Field}
use Rattle.two_line_fields.specs.declared.Form.{Form}
use Rattle.two_line_fields.specs.declared.Form.TheVariants.{Number, Year, Day, HalfDerivative, Angle, Eccentricity, MeanMotion}
use Rattle.two_line_fields.specs.Calendar.{full_year, days_before}
use Rattle.two_line_fields.specs.Decimals.{bad, decimal_of}
use Rattle.two_line_fields.specs.Fields.{year_of, allowed, field_of, value_of}
use Rattle.two_line_fields.specs.Layout.{layout_of, day}
use Rattle.two_line_fields.proofs.Digits.{small_either}
use Rattle.two_line_fields.proofs.Layouts.{decimal_small}

-- the digits of a form
abbrev pub digits : Form → ℕ
digits form = (layout_of form).ahead + (layout_of form).behind

pub few_digits : (form : Form) → digits form ≤ 11
few_digits Number = omega arith
few_digits Year = omega arith
few_digits Day = omega arith
few_digits HalfDerivative = omega arith
few_digits Angle = omega arith
few_digits Eccentricity = omega arith
few_digits MeanMotion = omega arith

pub value_small : (line : List ℕ) (f : Field) → value_of line f + 1 ≤ 10 ^ digits f.form
unfolding field_of
value_small line f =
    let d = decimal_of line f.column (layout_of f.form) in
    small_either (allowed line f.form (unwrap_or d 0)) d (decimal_small line f.column (layout_of f.form)) (one-le-pow (digits f.form) 10 (omega arith))

pub angle_small : (line : List ℕ) (f : Field) → f.form ≡ Angle → value_of line f < 3_600_000
unfolding field_of
angle_small line f e =
    let d = decimal_of line f.column (layout_of Angle) in
    rw e (either (ltb (unwrap_or d 0) 3_600_000) d (ltb-true (unwrap_or d 0) 3_600_000))
  where
    either : (t : Bool) (d : Option ℕ) → (t ≡ true → unwrap_or d 0 < 3_600_000) → unwrap_or (cond t d bad) 0 < 3_600_000
    either true d h = h refl
    either false d h = omega arith

-- ---- the epoch

pub year_digits : (line : List ℕ) → unwrap_or (decimal_of line 19 (layout_of Year)) 0 ≤ 99
year_digits line = omega (arith, decimal_small line 19 (layout_of Year))

full_year_range : (digits : ℕ) → digits ≤ 99 → (1957 ≤ full_year digits) × (full_year digits ≤ 2056)
full_year_range digits h = by_test (ltb digits 57) (ltb-true digits 57) (ltb-false digits 57)
  where
    by_test : (t : Bool) → (t ≡ true → digits < 57) → (t ≡ false → 57 ≤ digits) → (1957 ≤ cond t (2000 + digits) (1900 + digits)) × (cond t (2000 + digits) (1900 + digits) ≤ 2056)
    by_test true y n = let l = y refl in (omega arith, omega arith)
    by_test false y n = let l = n refl in (omega arith, omega arith)

pub year_range : (line : List ℕ) → (1957 ≤ year_of line) × (year_of line ≤ 2056)
unfolding year_of
year_range line = full_year_range _ (year_digits line)

pub days_small : (year : ℕ) → year ≤ 2056 → days_before year ≤ 40_000
days_small year h = omega arith

pub day_small : (line : List ℕ) → value_of line day / 10 ^ 8 < 1_000
day_small line = omega (arith, value_small line day)
