-- Division of signed numbers: document 01, "Units". A quotient cut toward zero is the library's `quot_z`; this file has the one that is
-- rounded down, and the mod that is never negative. Assumes nothing.
use Rattle.std.specs.Prelude.{ℕ, suc, ◌-◌, ◌/◌, ◌%◌, ℤ, pos, negsuc}

-- z / d down: negsuc a is -1 - a, and so is its quotient
abbrev pub floor_z : ℤ → ℕ → ℤ
floor_z (pos a) d = pos (a / d)
floor_z (negsuc a) d = negsuc (a / d)

-- z mod d, from 0 to d - 1
abbrev pub mod_z : ℤ → ℕ → ℕ
mod_z (pos a) d = a % d
mod_z (negsuc a) d = d - suc (a % d)
