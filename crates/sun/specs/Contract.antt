-- What the functions of the Sun owe. Assumes nothing.
use Rattle.std.specs.Prelude.{◌≡◌, ℕ, ◌^◌, ℤ, Err, Ok, Result}
use Rattle.integer.specs.Bound.{Within}
use Rattle.sun.specs.Sun.{centre_of, direction_of, sun_of, sun_answer}
use Rattle.sun.specs.declared.Direction.{Direction}
use Rattle.sun.specs.declared.Sun.{Sun}
use Rattle.refusal.specs.declared.Refusal.{Refusal}

pub record CentreAt (ma : ℕ) (r : ℤ) : Type 0 where
  pub is : r ≡ centre_of ma
  pub small : Within (2 ^ 33) r

-- each component of a direction is within ±2^30
pub record WithinOne (d : Direction) : Type 0 where
  pub x_within : Within (2 ^ 30) d.x
  pub y_within : Within (2 ^ 30) d.y
  pub z_within : Within (2 ^ 30) d.z

pub record DirectionAt (tl : ℕ) (r : Direction) : Type 0 where
  pub is : r ≡ direction_of tl
  pub small : WithinOne r

pub record SunAt (t : ℤ) (r : Sun) : Type 0 where
  pub is : r ≡ sun_of t
  pub small : WithinOne r.direction

abbrev pub DirectionWithinOne : Result Sun Refusal → Type 0
DirectionWithinOne (Ok s) = WithinOne s.direction
DirectionWithinOne (Err r) = Unit {0}

pub record SunAnswered (t : ℤ) (r : Result Sun Refusal) : Type 0 where
  pub is : r ≡ sun_answer t
  pub small : DirectionWithinOne r
