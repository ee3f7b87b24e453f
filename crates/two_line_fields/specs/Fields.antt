-- The fields of two lines, and the first that is bad: document 01, "Two-line elements", and refusal 19. Assumes nothing.
use Rattle.std.specs.Prelude.{ℕ, ◌+◌, ◌/◌, ◌^◌, Bool, true, ◌&&◌, cond, List, [], ◌∷◌, ltb, leb, Option, is_some, unwrap_or}
use Rattle.two_line_fields.specs.Calendar.{full_year, days_in}
use Rattle.two_line_fields.specs.Decimals.{bad, decimal_of}
use Rattle.two_line_fields.specs.Layout.{layout_of, year, first_line, second_line}
use Rattle.two_line_fields.specs.declared.columns.Field.{Field}
use Rattle.two_line_fields.specs.declared.Form.{Form}
use Rattle.two_line_fields.specs.declared.Form.TheVariants.{Number, Year, Day, HalfDerivative, Angle, Eccentricity, MeanMotion}

-- the year that line 1 has
unfoldable pub year_of : List ℕ → ℕ
year_of line = full_year (unwrap_or (decimal_of line year.column (layout_of year.form)) 0)

-- a day, in units of 10^-8 day, is one of its year, from 1 on
abbrev pub day_allowed : List ℕ → ℕ → Bool
day_allowed line value = leb 1 (value / 10 ^ 8) && leb (value / 10 ^ 8) (days_in (year_of line))

-- an angle, in units of 10^-4 degree, is below 360 degrees, and a day is one of its year; any other number is allowed
abbrev pub allowed : List ℕ → Form → ℕ → Bool
allowed line Angle value = ltb value 3_600_000
allowed line Day value = day_allowed line value
allowed line Number value = true
allowed line Year value = true
allowed line HalfDerivative value = true
allowed line Eccentricity value = true
allowed line MeanMotion value = true

-- what a field of a line holds
unfoldable pub field_of : List ℕ → Field → Option ℕ
field_of line f =
    let d = decimal_of line f.column (layout_of f.form) in
    cond (allowed line f.form (unwrap_or d 0)) d bad

abbrev pub value_of : List ℕ → Field → ℕ
value_of line f = unwrap_or (field_of line f) 0

-- the place of a field that is bad, its first column behind those of the lines ahead, or else the one that follows
unfoldable pub place_or : ℕ → List ℕ → Field → ℕ → ℕ
place_or ahead line f later = cond (is_some (field_of line f)) later (ahead + f.column)

-- of the first bad field of some
abbrev pub bad_from : ℕ → List ℕ → List Field → ℕ → ℕ
bad_from ahead line [] later = later
bad_from ahead line (f ∷ fs) later = place_or ahead line f (bad_from ahead line fs later)

-- line 1 from the left, then line 2 behind 69 columns; 0 where no field is bad
unfoldable pub first_bad : List ℕ → List ℕ → ℕ
first_bad first second = bad_from 0 first first_line (bad_from 69 second second_line 0)
