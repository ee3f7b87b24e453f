-- What the functions of shade and elevation ask and owe. Assumes nothing.
use Rattle.std.specs.Prelude.{◌≡◌, ℕ, ◌^◌, ℤ}
use Rattle.integer.specs.Bound.{Within}
use Rattle.sun.specs.Contract.{WithinOne}
use Rattle.sun.specs.declared.Direction.{Direction}
use Rattle.eclipse.specs.Shade.{spread}
use Rattle.eclipse.specs.Elevation.{normal_of, held_of, elevation_of}

-- With these every product fits in 64 bits. A position's components are up to 580,000,000 and a Sun's up to 2^30, and so p and D up to 2^31 and
-- side² within 7·2^60; D·702,378,000 is within 2^61, its quotient within 2^24, a shadow's radius within 2^25 and its square within 2^50.
abbrev pub DepthBound : ℤ → Type 0
DepthBound d = Within (2 ^ 31) d

abbrev pub RadiusBound : ℤ → Type 0
RadiusBound r = Within (2 ^ 25) r

pub record SpreadAt (depth radii r : ℤ) : Type 0 where
  pub is : r ≡ spread depth radii
  pub small : Within (2 ^ 24) r

pub record NormalAt (i node : ℕ) (r : Direction) : Type 0 where
  pub is : r ≡ normal_of i node
  pub small : WithinOne r

pub record HeldAt (z r : ℤ) : Type 0 where
  pub is : r ≡ held_of z
  pub small : Within (2 ^ 30) r

pub record ElevationAt (i node : ℕ) (sun : Direction) (r : ℤ) : Type 0 where
  pub is : r ≡ elevation_of i node sun
  pub small : Within (2 ^ 30) r
