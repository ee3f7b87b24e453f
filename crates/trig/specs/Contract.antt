-- What the functions owe beside the accuracy of the sine. Assumes nothing.
use Rattle.std.specs.Prelude.{ℕ, ◌^◌, ◌≤◌, ◌≡◌, ℤ}
use Rattle.integer.specs.Bound.{Within}
use Rattle.trig.specs.Sine.{C}

-- n is the definition's number, and at most b
pub record Bounded (b definition n : ℕ) : Type 0 where
  pub is : n ≡ definition
  pub small : n ≤ b

-- z is C at the angle a
pub record CosineAt (a : ℕ) (z : ℤ) : Type 0 where
  pub is : z ≡ C a
  pub small : Within (2 ^ 30) z
