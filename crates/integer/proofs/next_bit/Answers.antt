-- `integer::next_bit` meets its contract. Assumes nothing.
use native.Mathlib.Omega.{arith}
use Rattle.integer.proofs.Root.{remainder_le}
use Rattle.integer.proofs.DigitByDigit.{bit_added}
use Rattle.integer.proofs.next_bit.Goals as goal

-- by `remainder_le` no bit of the remainder is lost in its shift
pub returns-then-remainder-subtrahend : goal.returns-then-remainder-subtrahend
returns-then-remainder-subtrahend c =
    let m = remainder_le _ _ c.requires.0 in
    bit_added _ _ _ 0 (omega arith) (omega arith) (omega arith) (omega arith)

pub returns-else-remainder-subtrahend : goal.returns-else-remainder-subtrahend
returns-else-remainder-subtrahend c =
    let m = remainder_le _ _ c.requires.0 in
    bit_added _ _ _ 1 (omega arith) (omega arith) (omega arith) (omega arith)
