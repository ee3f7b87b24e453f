-- What is asked of each line whole: document 01, refusals 17 and 18. Assumes nothing.
use Rattle.std.specs.Prelude.{ℕ, zero, suc, ◌+◌, ◌%◌, Bool, ◌&&◌, cond, List, eqb, length}
use Rattle.digit.specs.Digit.{digit_value}
use Rattle.two_line_fields.specs.Decimals.{byte_of}

-- 69 bytes, and the line's number first
abbrev pub begins : ℕ → List ℕ → Bool
begins number line = eqb (length line) 69 && eqb (byte_of line 1) number

-- what a byte counts in the checksum: a minus 1, a digit itself, anything else nothing
abbrev pub weight : ℕ → ℕ
weight byte = cond (eqb byte 45) 1 (digit_value byte)

-- over the first n columns
abbrev pub weight_to : List ℕ → ℕ → ℕ
weight_to line zero = 0
weight_to line (suc n) = weight_to line n + weight (byte_of line (suc n))

-- column 69 has the last digit of what the 68 ahead of it count
unfoldable pub checksum_holds : List ℕ → Bool
checksum_holds line = eqb (byte_of line 69) (48 + weight_to line 68 % 10)
