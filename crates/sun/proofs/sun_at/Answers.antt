-- `sun::sun_at` meets its contract. Assumes nothing.
use Rattle.std.proofs.Common.{◌≡◌, true, ℤ, to_z-of_z, rules}
use Rattle.integer.specs.Bound.{Within}
use Rattle.time.specs.Range.{in_range}
use Rattle.time.proofs.Size.{in_range_size}
use Rattle.sun.specs.Sun.{mean_anomaly, mean_longitude}
use Rattle.sun.proofs.Constants.{constants}
use Rattle.sun.proofs.Components.{sun_at}
use Rattle.sun.proofs.sun_at.Goals as goal

time_within : {t : ℤ} → in_range t ≡ true → Within 3_476_476_799 t
time_within h = record { within = in_range_size _ h }

pub mean_angle-mean_anomaly-requires : goal.mean_angle-mean_anomaly-requires
mean_angle-mean_anomaly-requires c = let h = time_within c.requires in search rules

pub mean_angle-mean_longitude-requires : goal.mean_angle-mean_longitude-requires
mean_angle-mean_longitude-requires c = let h = time_within c.requires in search rules

pub returns : goal.returns
unfolding mean_anomaly mean_longitude
returns c =
    let t = to_z-of_z c.ranges.time in
    sun_at
    (rw constants.mean_anomaly_at_epoch (rw t at c.mean_angle-mean_anomaly.ensures))
    (rw constants.mean_longitude_at_epoch (rw t at c.mean_angle-mean_longitude.ensures))
    c.true_longitude-true_longitude.ensures
    (rw t at c.hour_angle.ensures)
    c.direction_at.ensures
