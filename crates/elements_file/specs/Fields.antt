-- The elements with one of them read. Assumes nothing.
use Rattle.std.specs.Prelude.{ℕ, cond, eqb}
use Rattle.elements.specs.declared.Elements.{Elements}
use Rattle.elements_file.specs.Numbers.{magnitude_of, signed_of}
use Rattle.elements_file.specs.declared.number.Number.{Number}

-- the number is that of the element, counted from 0 in the order of the file; the others stay
unfoldable pub stored : Elements → ℕ → Number → Elements
stored el element n =
    record {
      eccentricity = cond (eqb element 0) (magnitude_of n) el.eccentricity;
      semi_major_axis = cond (eqb element 1) (magnitude_of n) el.semi_major_axis;
      inclination = cond (eqb element 2) (magnitude_of n) el.inclination;
      node = cond (eqb element 3) (magnitude_of n) el.node;
      argument_of_perigee = cond (eqb element 4) (magnitude_of n) el.argument_of_perigee;
      mean_anomaly = cond (eqb element 5) (magnitude_of n) el.mean_anomaly;
      mean_motion = cond (eqb element 6) (magnitude_of n) el.mean_motion;
      node_rate = cond (eqb element 7) (signed_of n) el.node_rate;
      perigee_rate = cond (eqb element 8) (signed_of n) el.perigee_rate;
      epoch_revolution = cond (eqb element 9) (magnitude_of n) el.epoch_revolution;
      epoch = cond (eqb element 10) (signed_of n) el.epoch;
      half_mean_motion_derivative = cond (eqb element 11) (signed_of n) el.half_mean_motion_derivative;
    }
