-- What an elements file holds: its bytes in turn, each with what it does. Assumes nothing.
use Rattle.std.specs.Prelude.{ℕ, ◌+◌, cond, List, [], ◌∷◌, eqb, ltb, is_some, pos, length, Err, Ok, Result}
use Rattle.elements_file.specs.Fields.{stored}
use Rattle.elements_file.specs.Lines.{within}
use Rattle.elements_file.specs.declared.Fault.{Fault}
use Rattle.elements_file.specs.declared.Fault.TheVariants.{Name, NotWhole, Unended, Missing, TooLong}
use Rattle.elements_file.specs.declared.Progress.{Progress}
use Rattle.elements_file.specs.declared.line.Place.{Place}
use Rattle.elements_file.specs.declared.line.Place.TheVariants.{Start, Comment, Named, Value, Faulty}
use Rattle.elements_file.specs.declared.number.Number.{Number}
use Rattle.elements.specs.declared.Elements.{Elements}
use Rattle.elements_file.specs.declared.Malformed.{Malformed}

abbrev pub malformed_at : ℕ → ℕ → Fault → Malformed
malformed_at line element fault = record { line = line; element = element; fault = fault }

-- line 1, no element read
unfoldable pub start : Progress
start =
    record {
      line = 1;
      element = 0;
      place = Start;
      elements =
          record {
            eccentricity = 0;
            semi_major_axis = 0;
            inclination = 0;
            node = 0;
            argument_of_perigee = 0;
            mean_anomaly = 0;
            mean_motion = 0;
            node_rate = pos 0;
            perigee_rate = pos 0;
            epoch_revolution = 0;
            epoch = pos 0;
            half_mean_motion_derivative = pos 0;
          };
    }

abbrev pub at : Progress → Place → Progress
at s place = record { line = s.line; element = s.element; place = place; elements = s.elements }

abbrev pub next_line : Progress → Progress
next_line s = record { line = s.line + 1; element = s.element; place = Start; elements = s.elements }

abbrev pub next_element : Progress → Number → Progress
next_element s n =
    record { line = s.line + 1; element = s.element + 1; place = Start; elements = stored s.elements s.element n }

-- the end of a line, in which nothing stands, a comment, a name without a number, a number, or a fault
unfoldable pub ended : Place → Progress → Progress
ended Start s = next_line s
ended Comment s = next_line s
ended (Named k) s = at s (Faulty Name)
ended (Value n) s = cond (is_some n.magnitude) (next_element s n) (at s (Faulty NotWhole))
ended (Faulty fault) s = s

-- a byte: LF ends a line
unfoldable pub step : Progress → ℕ → Progress
step s byte = cond (eqb byte 10) (ended s.place s) (at s (within s.place s.element byte))

unfoldable pub after_bytes : Progress → List ℕ → Progress
after_bytes s [] = s
after_bytes s (byte ∷ bytes) = after_bytes (step s byte) bytes

-- the end of the file: between lines, with every element read
unfoldable pub concluded : Place → Progress → Result Elements Malformed
concluded Start s = cond (eqb s.element 12) (Ok s.elements) (Err (malformed_at s.line s.element Missing))
concluded (Faulty fault) s = Err (malformed_at s.line s.element fault)
concluded Comment s = Err (malformed_at s.line s.element Unended)
concluded (Named k) s = Err (malformed_at s.line s.element Unended)
concluded (Value n) s = Err (malformed_at s.line s.element Unended)

abbrev pub finished : Progress → Result Elements Malformed
finished s = concluded s.place s

unfoldable pub parsed : List ℕ → Result Elements Malformed
parsed text = cond (ltb 65_535 (length text)) (Err (malformed_at 1 0 TooLong)) (finished (after_bytes start text))
