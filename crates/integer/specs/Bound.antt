-- A bound on the size of a signed number. Assumes nothing.
use Rattle.std.specs.Prelude.{ℕ, ◌≤◌, ℤ, nat_abs}

-- |z| ≤ b
pub record Within (b : ℕ) (z : ℤ) : Type 0 where
  pub within : nat_abs z ≤ b
