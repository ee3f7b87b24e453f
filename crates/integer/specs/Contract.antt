-- What the functions owe. Assumes nothing.
use Rattle.std.specs.Prelude.{◌≡◌, ℕ, ◌+◌, ◌*◌, ◌^◌, ◌≤◌, ◌<◌, ℤ, pos, ◌*ℤ◌}
use Rattle.integer.specs.Bound.{Within}
use Rattle.integer.specs.Division.{floor_z, mod_z}
use Rattle.integer.specs.Root.{root}
use Rattle.integer.specs.declared.FloorQuotient.{FloorQuotient}
use Rattle.integer.specs.declared.PartialRoot.{PartialRoot}

-- the quotient down and its remainder
pub record FloorDivided (n : ℤ) (d : ℕ) (r : FloorQuotient) : Type 0 where
  pub quotient_is : r.quotient ≡ floor_z n d
  pub remainder_is : r.remainder ≡ mod_z n d

-- x·s / d down fits, and so does s times a remainder of d
pub record Scalable (x : ℤ) (s d : ℕ) : Type 0 where
  pub divisor : 0 < d
  pub remainders : d * s ≤ 2 ^ 62
  pub answer : Within (2 ^ 61) (floor_z (x *ℤ pos s) d)

-- the bits that the digit-by-digit method has brought down: the square of the root so far, and the remainder
abbrev pub brought_down : PartialRoot → ℕ
brought_down p = p.root * p.root + p.remainder

-- the root so far is their whole square root
abbrev pub RootSoFar : PartialRoot → Type 0
RootSoFar p = p.root ≡ root (brought_down p)

-- a round brings two bits down behind them and gives the root one bit more
pub record BitAdded (p : PartialRoot) (pair : ℕ) (r : PartialRoot) : Type 0 where
  pub pair_down : brought_down r ≡ 4 * brought_down p + pair
  pub root_so_far : RootSoFar r
  pub one_bit : r.root ≤ 2 * p.root + 1
