-- What an angle's sine and cosine are, where the three come together. Assumes nothing.
use Rattle.std.specs.Prelude.{ℕ, ◌^◌, ◌≡◌}
use Rattle.integer.specs.Bound.{Within}
use Rattle.trig.specs.Sine.{S, C}
use Rattle.trig.specs.declared.Sines.{Sines}

-- the sine and the cosine are those of the angle
pub record SinesOf (r : Sines) : Type 0 where
  pub sine_is : r.sine ≡ S r.angle
  pub cosine_is : r.cosine ≡ C r.angle
  pub sine_within : Within (2 ^ 30) r.sine
  pub cosine_within : Within (2 ^ 30) r.cosine

pub record SinesAt (a : ℕ) (r : Sines) : Type 0 where
  pub angle_is : r.angle ≡ a
  pub sines_of : SinesOf r
