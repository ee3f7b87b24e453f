-- Plain elements files, with no comment and no empty line, and the elements that they write. Assumes nothing.
use Rattle.std.specs.Prelude.{ℕ, zero, suc, ◌+◌, ◌*◌, ◌≤◌, ◌≡◌, Bool, true, cond, List, [], ◌∷◌, ◌++◌, eqb, drop, Some}
use Rattle.elements.specs.declared.Elements.{Elements}
use Rattle.elements_file.specs.Names.{names}
use Rattle.elements_file.specs.Numbers.{is_signed, largest, magnitude_of, signed_of}
use Rattle.elements_file.specs.declared.number.Number.{Number}

-- the number that digits write, behind those of m
unfoldable pub value_after : ℕ → List ℕ → ℕ
value_after m [] = m
value_after m (d ∷ ds) = value_after (10 * m + d) ds

-- a minus or none, a first digit, and further ones
pub record Numeral : Type 0 where
  pub negative : Bool
  pub first : ℕ
  pub further : List ℕ

abbrev pub read_number : Numeral → Number
read_number w = record { negative = w.negative; magnitude = Some (value_after w.first w.further) }

-- ---- the bytes
abbrev pub digit_bytes : List ℕ → List ℕ
digit_bytes [] = []
digit_bytes (d ∷ ds) = (48 + d) ∷ digit_bytes ds

unfoldable pub value_bytes : Numeral → List ℕ
value_bytes w = cond w.negative (45 ∷ []) [] ++ ((48 + w.first) ∷ digit_bytes w.further)

abbrev pub up_to_space : List ℕ → List ℕ
up_to_space [] = []
up_to_space (byte ∷ bytes) = cond (eqb byte 32) [] (byte ∷ up_to_space bytes)

unfoldable pub name_of : ℕ → List ℕ
name_of element = up_to_space (drop (28 * element) names)

-- the name, a space, the value, LF
unfoldable pub line_of : ℕ → Numeral → List ℕ
line_of element w = name_of element ++ (32 ∷ (value_bytes w ++ (10 ∷ [])))

unfoldable pub lines_from : ℕ → ℕ → (ℕ → Numeral) → List ℕ
lines_from element zero w = []
lines_from element (suc n) w = line_of element (w element) ++ lines_from (element + 1) n w

-- ---- what they write
abbrev pub AllDigits : List ℕ → Type 0
AllDigits [] = Unit {0}
AllDigits (d ∷ ds) = (d ≤ 9) × AllDigits ds

-- digits, and a number that the element holds
pub record Plain (element : ℕ) (w : Numeral) : Type 0 where
  pub leading : w.first ≤ 9
  pub following : AllDigits w.further
  pub signed : w.negative ≡ true → is_signed element ≡ true
  pub held : magnitude_of (read_number w) ≤ largest element w.negative

abbrev pub written_elements : (ℕ → Numeral) → Elements
written_elements w =
    record {
      eccentricity = magnitude_of (read_number (w 0));
      semi_major_axis = magnitude_of (read_number (w 1));
      inclination = magnitude_of (read_number (w 2));
      node = magnitude_of (read_number (w 3));
      argument_of_perigee = magnitude_of (read_number (w 4));
      mean_anomaly = magnitude_of (read_number (w 5));
      mean_motion = magnitude_of (read_number (w 6));
      node_rate = signed_of (read_number (w 7));
      perigee_rate = signed_of (read_number (w 8));
      epoch_revolution = magnitude_of (read_number (w 9));
      epoch = signed_of (read_number (w 10));
      half_mean_motion_derivative = signed_of (read_number (w 11));
    }
