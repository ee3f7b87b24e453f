-- The numbers that every time shares, and that the code has as constants: the checker computes each. Assumes nothing.
use Rattle.std.proofs.Common.{◌≡◌, pos, refl}
use Rattle.trig.specs.Angle.{angle_of}
use Rattle.trig.specs.Sine.{S, C, in_quarter, quarter_sine, uncapped, series, horner_step, square, radians}

pub record Constants : Type 0 where
  pub mean_anomaly_at_epoch : angle_of 3_566_349 ≡ 4_254_820_089
  pub mean_longitude_at_epoch : angle_of 2_794_033 ≡ 3_333_411_210
  pub centre_of_once : angle_of 19_151 ≡ 22_848_032
  pub centre_of_twice : angle_of 200 ≡ 238_609
  pub obliquity_cosine : C (angle_of 234_406) ≡ pos 985_129_105
  pub obliquity_sine : S (angle_of 234_406) ≡ pos 427_132_473

pub constants : Constants
unfolding angle_of S C in_quarter quarter_sine uncapped series horner_step square radians
constants =
    record {
      mean_anomaly_at_epoch = refl;
      mean_longitude_at_epoch = refl;
      centre_of_once = refl;
      centre_of_twice = refl;
      obliquity_cosine = refl;
      obliquity_sine = refl;
    }
