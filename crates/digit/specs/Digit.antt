-- Decimal digits as bytes of ASCII: docs/FORMATS.md, and document 01, "Two-line elements". Assumes nothing.
use Rattle.std.specs.Prelude.{ℕ, ◌-◌, Bool, ◌&&◌, cond, leb}

-- "0" to "9"
abbrev pub is_digit : ℕ → Bool
is_digit byte = leb 48 byte && leb byte 57

-- the number of a digit, and 0 for any other byte
abbrev pub digit_value : ℕ → ℕ
digit_value byte = cond (is_digit byte) (byte - 48) 0
