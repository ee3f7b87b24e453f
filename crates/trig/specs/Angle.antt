-- Angles: document 01, "Units". An angle is a whole number from 0 to 2^32 - 1, and 2^32 is one turn. Assumes nothing.
use Rattle.std.specs.Prelude.{ℕ, ◌*◌, ◌/◌, ◌%◌, ◌^◌}

-- angle(d): d ten-thousandths of a degree as an angle, rounded down and wrapped
unfoldable pub angle_of : ℕ → ℕ
angle_of d = d * 2 ^ 32 / 3_600_000 % 2 ^ 32
