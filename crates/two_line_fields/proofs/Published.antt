-- The columns are those of the published layout. Assumes nothing.
use mathlib.Core.Path.{◌≡◌, refl}
use mathlib.Core.List.{[], ◌∷◌, map}
use Rattle.two_line_fields.specs.declared.columns.Field.{Field}
use Rattle.two_line_fields.specs.Layout.{day, half_derivative, inclination, node, argument_of_perigee, mean_anomaly, mean_motion, first_line, second_line, last_column, point_column}

-- line 1: 3 to 7, 19 to 20, 21 to 32, 34 to 43
pub first_line_lem : (map (λ (f : Field). f.column) first_line ≡ 3 ∷ 19 ∷ 21 ∷ 34 ∷ []) × (map last_column first_line ≡ 7 ∷ 20 ∷ 32 ∷ 43 ∷ [])
first_line_lem = (refl, refl)

-- line 2: 3 to 7, 9 to 16, 18 to 25, 27 to 33, 35 to 42, 44 to 51, 53 to 63, 64 to 68
pub second_line_lem : (map (λ (f : Field). f.column) second_line ≡ 3 ∷ 9 ∷ 18 ∷ 27 ∷ 35 ∷ 44 ∷ 53 ∷ 64 ∷ []) × (map last_column second_line ≡ 7 ∷ 16 ∷ 25 ∷ 33 ∷ 42 ∷ 51 ∷ 63 ∷ 68 ∷ [])
second_line_lem = (refl, refl)

-- the points that are written
pub points : map point_column (day ∷ half_derivative ∷ inclination ∷ node ∷ argument_of_perigee ∷ mean_anomaly ∷ mean_motion ∷ []) ≡ 24 ∷ 35 ∷ 12 ∷ 21 ∷ 38 ∷ 47 ∷ 55 ∷ []
points = refl
