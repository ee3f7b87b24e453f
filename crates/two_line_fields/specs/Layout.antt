-- The layout of two-line elements: document 01, "Two-line elements". Columns count from 1. Assumes nothing.
use Rattle.std.specs.Prelude.{ℕ, ◌+◌, ◌-◌, T, true, false, ◌&&◌, leb, List, [], ◌∷◌}
use Rattle.two_line_fields.specs.Decimals.{width}
use Rattle.two_line_fields.specs.declared.columns.Field.{Field}
use Rattle.two_line_fields.specs.declared.Form.{Form}
use Rattle.two_line_fields.specs.declared.Form.TheVariants.{Number, Year, Day, HalfDerivative, Angle, Eccentricity, MeanMotion}
use Rattle.two_line_fields.specs.declared.Layout.{Layout}

-- ---- the columns of each form of field, from the left: a sign or none; those ahead of the point, in which leading blanks may stand for zeros; the point,
-- where it is written; the digits behind it. Below, "_" is a digit or a leading blank, and "9" a digit.

abbrev pub layout_of : Form → Layout
-- _____
layout_of Number = record { sign = false; ahead = 5; blanks = true; point = false; behind = 0 }
-- 99
layout_of Year = record { sign = false; ahead = 2; blanks = false; point = false; behind = 0 }
-- 999.99999999
layout_of Day = record { sign = false; ahead = 3; blanks = false; point = true; behind = 8 }
-- +.99999999, the sign a blank, a plus or a minus
layout_of HalfDerivative = record { sign = true; ahead = 0; blanks = false; point = true; behind = 8 }
-- ___.9999
layout_of Angle = record { sign = false; ahead = 3; blanks = true; point = true; behind = 4 }
-- 9999999, the point implied ahead of them
layout_of Eccentricity = record { sign = false; ahead = 0; blanks = false; point = false; behind = 7 }
-- __.99999999
layout_of MeanMotion = record { sign = false; ahead = 2; blanks = true; point = true; behind = 8 }

-- ---- the fields of each line

-- a field: its first column, which is one of the 69, and its form
abbrev at : (column : ℕ) → Form → T (leb 1 column && leb column 69) → Field
at column form h = record { column = column; form = form; on_line = h }

-- on either line
abbrev pub satellite_number : Field
satellite_number = at 3 Number tt

-- on line 1
abbrev pub year : Field
year = at 19 Year tt

abbrev pub day : Field
day = at 21 Day tt

abbrev pub half_derivative : Field
half_derivative = at 34 HalfDerivative tt

abbrev pub first_line : List Field
first_line = satellite_number ∷ year ∷ day ∷ half_derivative ∷ []

-- on line 2
abbrev pub inclination : Field
inclination = at 9 Angle tt

abbrev pub node : Field
node = at 18 Angle tt

abbrev pub eccentricity : Field
eccentricity = at 27 Eccentricity tt

abbrev pub argument_of_perigee : Field
argument_of_perigee = at 35 Angle tt

abbrev pub mean_anomaly : Field
mean_anomaly = at 44 Angle tt

abbrev pub mean_motion : Field
mean_motion = at 53 MeanMotion tt

abbrev pub revolution : Field
revolution = at 64 Number tt

abbrev pub second_line : List Field
second_line = satellite_number ∷ inclination ∷ node ∷ eccentricity ∷ argument_of_perigee ∷ mean_anomaly ∷ mean_motion ∷ revolution ∷ []

-- ---- the columns that follow from it

-- the last column of a field
abbrev pub last_column : Field → ℕ
last_column f = let l = layout_of f.form in f.column + width l.sign + l.ahead + width l.point + l.behind - 1

-- the column of its point, where one is written
abbrev pub point_column : Field → ℕ
point_column f = let l = layout_of f.form in f.column + width l.sign + l.ahead
