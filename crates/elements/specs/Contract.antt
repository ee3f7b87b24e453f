-- What elements are within: any, those that passed the checks, and a time with them. Assumes nothing.
use Rattle.std.specs.Prelude.{◌*◌, ◌^◌, ◌≤◌, ◌<◌, ℤ, nat_abs}
use Rattle.std.specs.Int.{w32, w64}
use Rattle.std.proofs.Common.{SFits}
use Rattle.integer.specs.Bound.{Within}
use Rattle.elements.specs.declared.Elements.{Elements}

-- half a derivative d of the mean motion and an elapsed time Δ that are accepted together: within a year, and within 30 days unless d is 0
pub record Near (d Δ : ℤ) : Type 0 where
  pub derivative : Within 1_000_000 d
  pub elapsed : Within 31_622_400 Δ
  pub near : nat_abs d * nat_abs Δ ≤ nat_abs d * 2_592_000

-- each element within its type
pub record Held (el : Elements) : Type 0 where
  pub eccentricity : el.eccentricity < 2 ^ 32
  pub semi_major_axis : el.semi_major_axis < 2 ^ 32
  pub inclination : el.inclination < 2 ^ 32
  pub node : el.node < 2 ^ 32
  pub argument_of_perigee : el.argument_of_perigee < 2 ^ 32
  pub mean_anomaly : el.mean_anomaly < 2 ^ 32
  pub mean_motion : el.mean_motion < 2 ^ 32
  pub node_rate : SFits w32 el.node_rate
  pub perigee_rate : SFits w32 el.perigee_rate
  pub epoch_revolution : el.epoch_revolution < 2 ^ 32
  pub epoch : SFits w64 el.epoch
  pub derivative : SFits w32 el.half_mean_motion_derivative
