-- The elements that two lines give, with the semi-major axis and the drift rates beside them: document 01, "Two-line elements". Assumes nothing.
use Rattle.std.specs.Prelude.{ℕ, ◌+◌, ◌*◌, ◌-◌, ◌/◌, ◌%◌, ◌^◌, not, ◌&&◌, cond, List, eqb, ltb, ℤ, pos, neg_ℤ, ◌-ℤ◌, Err, Ok, Result}
use Rattle.refusal.specs.declared.Refusal.TheVariants as refusal
use Rattle.trig.specs.Angle.{angle_of}
use Rattle.elements.specs.Elements.{checked}
use Rattle.elements.specs.declared.Elements.{Elements}
use Rattle.two_line_fields.specs.Calendar.{days_before}
use Rattle.two_line_fields.specs.Decimals.{byte_of}
use Rattle.two_line_fields.specs.Fields.{year_of, value_of, first_bad}
use Rattle.two_line_fields.specs.Layout.{satellite_number, day, half_derivative, inclination, node, eccentricity, argument_of_perigee, mean_anomaly, mean_motion, revolution}
use Rattle.two_line.specs.Lines.{begins, checksum_holds}
use Rattle.refusal.specs.Refused.{refused_at}
use Rattle.refusal.specs.declared.Refusal.{Refusal}
use Rattle.refusal.specs.declared.RefusedAt.{RefusedAt}

-- ---- the epoch, moved back to the full second

-- the millionths of a second from the start of the epoch's day: 864 for each 10^-8 day
unfoldable pub microseconds : List ℕ → ℕ
microseconds first = value_of first day % 10 ^ 8 * 864

-- the full seconds from 1957 Jan 0.0; the epoch's day counts from Jan 0.0 of its year
unfoldable pub seconds_of : List ℕ → ℕ
seconds_of first = 86_400 * (days_before (year_of first) + value_of first day / 10 ^ 8) + microseconds first / 10 ^ 6

-- from 1990 Jan 0.0
unfoldable pub epoch_of : List ℕ → ℤ
epoch_of first = pos (seconds_of first) -ℤ pos (86_400 * days_before 1990)

-- what n turns in the part of a second that is cut, rounded down
unfoldable pub amount_of : ℕ → List ℕ → ℕ
amount_of n first = n * (microseconds first % 10 ^ 6) * 2 ^ 11 / 4_119_873_046_875

-- an angle less the amount, wrapped
unfoldable pub moved_back : ℕ → ℕ → ℕ
moved_back angle amount = cond (ltb angle amount) (angle + 2 ^ 32 - amount) (angle - amount)

-- the revolution, unless 0, less 1 where the mean anomaly and the argument of perigee, their sum wrapped, were below the amount; 0 less 1 is 0 in ℕ
unfoldable pub revolution_back : ℕ → ℕ → ℕ → ℕ
revolution_back number sum amount = cond (ltb (sum % 2 ^ 32) amount) (number - 1) number

-- ---- the elements

-- a minus makes it negative
unfoldable pub derivative_of : List ℕ → ℤ
derivative_of first =
    let size = pos (value_of first half_derivative) in
    cond (eqb (byte_of first half_derivative.column) 45) (neg_ℤ size) size

-- with the mean motion n
unfoldable pub taken_with : ℕ → List ℕ → List ℕ → ℕ → ℤ → ℤ → Elements
taken_with n first second axis node_rate perigee_rate =
    let w = angle_of (value_of second argument_of_perigee) in
    let M = angle_of (value_of second mean_anomaly) in
    let amount = amount_of n first in
    record {
      eccentricity = value_of second eccentricity;
      semi_major_axis = axis;
      inclination = angle_of (value_of second inclination);
      node = angle_of (value_of second node);
      argument_of_perigee = w;
      mean_anomaly = moved_back M amount;
      mean_motion = n;
      node_rate = node_rate;
      perigee_rate = perigee_rate;
      epoch_revolution = revolution_back (value_of second revolution) (M + w) amount;
      epoch = epoch_of first;
      half_mean_motion_derivative = derivative_of first;
    }

-- that of line 2, which may be past 32 bits
unfoldable pub taken : List ℕ → List ℕ → ℕ → ℤ → ℤ → Elements
taken first second = taken_with (value_of second mean_motion) first second

-- ---- the refusals, in their order

abbrev pub judged : Result Unit Refusal → Elements → Result Elements RefusedAt
judged (Ok tt) el = Ok el
judged (Err refusal) el = Err (refused_at refusal 0)

unfoldable pub two_line_reading : List ℕ → List ℕ → ℕ → ℤ → ℤ → Result Elements RefusedAt
two_line_reading first second axis node_rate perigee_rate =
    -- 17: "1" and "2" first
    cond (not (begins 49 first && begins 50 second)) (Err (refused_at refusal.Lines 0))
    -- 18
    (cond (not (checksum_holds first && checksum_holds second)) (Err (refused_at refusal.Checksum 0))
    -- 19
    (cond (not (eqb (first_bad first second) 0)) (Err (refused_at refusal.Field (first_bad first second)))
    -- 20
    (cond (not (eqb (value_of first satellite_number) (value_of second satellite_number))) (Err (refused_at refusal.SatelliteNumbers 0))
    -- 1 to 7, 16, 8
    (let el = taken first second axis node_rate perigee_rate in
    judged (checked el) el))))
