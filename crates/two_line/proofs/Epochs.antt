-- How large the parts of the epoch and the amount that is moved back are. Assumes nothing.
use mathlib.Core.List.{List}
use Prim.Native.Nat.{ℕ, ◌*◌, ◌%◌, ◌^◌, ◌≤◌, ◌<◌}
use native.Mathlib.Nat.{mul-le-mul, mul-le-mul_right}
use native.Mathlib.Omega.{arith}
use Rattle.two_line_fields.specs.Fields.{year_of}
use Rattle.two_line_fields.proofs.Values.{year_range, days_small, day_small}
use Rattle.two_line.specs.Reading.{microseconds, seconds_of, amount_of}

pub microseconds_small : (line : List ℕ) → microseconds line < 86_400_000_000
unfolding microseconds
microseconds_small line = omega arith

pub seconds_small : (line : List ℕ) → seconds_of line < 2 ^ 32
unfolding seconds_of
seconds_small line = omega (arith, days_small (year_of line) (year_range line).1, day_small line, microseconds_small line)

-- ---- the amount that is moved back

-- of a mean motion within 32 bits and a part of a second, uncut
pub turned_small : (n part : ℕ) → n < 2 ^ 32 → part < 10 ^ 6 → n * part * 2 ^ 11 ≤ 2 ^ 32 * 10 ^ 6 * 2 ^ 11
turned_small n part h l = mul-le-mul_right (2 ^ 11) (mul-le-mul {n₁ = n} {m₁ = part} {n₂ = 2 ^ 32} {m₂ = 10 ^ 6} (omega arith) (omega arith))

pub amount_small : (n : ℕ) (line : List ℕ) → n < 2 ^ 32 → amount_of n line ≤ 2 ^ 32
unfolding amount_of
amount_small n line h = omega (arith, turned_small n (microseconds line % 10 ^ 6) h (omega arith))
