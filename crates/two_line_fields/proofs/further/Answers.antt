-- `two_line_fields::further` meets its contract. Assumes nothing.
use Prim.Native.Nat.{◌+◌, ◌*◌, ◌-◌, ◌^◌, ◌≤◌}
use native.Mathlib.Omega.{arith}
use Rattle.digit.proofs.Range.{digit_small}
use Rattle.two_line_fields.proofs.Digits.{room_for_one}
use Rattle.two_line_fields.proofs.further.Goals as goal
use Rattle.two_line_fields.proofs.further.Goals.{In-loop-i}

-- the number so far has room for one more digit
room : (c : In-loop-i) → (c.loop-i.value + 1) * 10 ≤ 10 ^ 18
room c =
    let l = c.loop-i in
    room_for_one l.value (c.args.columns - l.i) (10 ^ 18) (omega arith) l.invariant.0

pub overflow_mul-value : goal.overflow_mul-value
overflow_mul-value c = record { fits = omega (arith, room (goal.at.overflow_mul-value c).In-loop-i) }

pub overflow_add-value : goal.overflow_add-value
overflow_add-value c = record { fits = omega (arith, room (goal.at.overflow_add-value c).In-loop-i, digit_small c.byte-byte.result, c.value.ensures) }
