-- What the turns owe. Assumes nothing.
use Rattle.std.specs.Prelude.{◌≡◌, ℕ, ℤ}
use Rattle.position.specs.Box.{CelestialBox}
use Rattle.position.specs.Turn.{turned_first, turned_second, celestial_of}
use Rattle.position.specs.declared.Position.{Position}

pub record TurnedPair (x y : ℤ) (angle : ℕ) (r : ℤ × ℤ) : Type 0 where
  pub first_is : r.0 ≡ turned_first x y angle
  pub second_is : r.1 ≡ turned_second x y angle

pub record Celestial (p : Position) (argument_of_perigee inclination node : ℕ) (r : Position) : Type 0 where
  pub is : r ≡ celestial_of p argument_of_perigee inclination node
  pub box : CelestialBox r
