-- The angle of some ten-thousandths of a degree. Assumes nothing.
use Rattle.std.proofs.Common.{ℕ, ◌^◌, ◌<◌, arith}
use Rattle.trig.specs.Angle.{angle_of}

pub angle_below : (d : ℕ) → angle_of d < 2 ^ 32
unfolding angle_of
angle_below d = omega arith
