-- Bounds of a position. Assumes nothing.
use Rattle.std.specs.Prelude.{ℕ, ◌^◌}
use Rattle.integer.specs.Bound.{Within}
use Rattle.position.specs.declared.Position.{Position}

-- |x| ≤ bx, |y| ≤ by and |z| ≤ bz
pub record Box (bx by bz : ℕ) (p : Position) : Type 0 where
  pub x_within : Within bx p.x
  pub y_within : Within by p.y
  pub z_within : Within bz p.z

-- a product of a component and a sine fits in 64 bits
abbrev pub Turnable : Position → Type 0
Turnable p = Box (2 ^ 31) (2 ^ 31) (2 ^ 31) p

-- in the plane of an orbit that document 01 accepts: a to 100,000,000 m, and e to 0.9
abbrev pub PlaneBox : Position → Type 0
PlaneBox p = Box 190_000_000 100_000_000 0 p

-- the celestial position of such a one
abbrev pub CelestialBox : Position → Type 0
CelestialBox p = Box 580_000_000 580_000_000 290_000_000 p
