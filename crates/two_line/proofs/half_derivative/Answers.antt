-- `two_line::half_derivative` meets its contract. Assumes nothing.
use Prim.Native.Nat.{◌^◌, ◌≤◌}
use native.Mathlib.Omega.{arith}
use borrow.Author.Tests.{eq-eqb, ne_eqb}
use Rattle.std.proofs.lemmas.Int.{ints}
use Rattle.two_line_fields.specs.Layout.{half_derivative}
use Rattle.two_line_fields.proofs.Values.{value_small}
use Rattle.two_line.specs.Reading.{derivative_of}
use Rattle.two_line.proofs.half_derivative.Goals as goal
use Rattle.two_line.proofs.half_derivative.Goals.{After-value-size}

small : (c : After-value-size) → c.value-size.result ≤ 10 ^ 8
small c = omega (arith, c.value-size.ensures, value_small c.args.first.now half_derivative)

pub overflow_cast-size : goal.overflow_cast-size
overflow_cast-size c = omega (arith, ints, small c)

pub overflow_sub-result : goal.overflow_sub-result
overflow_sub-result c = omega (arith, ints, small (goal.at.overflow_sub-result c).After-value-size)

pub returns-then-byte-eq45 : goal.returns-then-byte-eq45
unfolding derivative_of
returns-then-byte-eq45 c =
    let s = small (goal.at.returns-then-byte-eq45 c).After-value-size in
    rw (← c.byte.ensures, eq-eqb _ 45 c.if-byte-eq45.true, ← c.value-size.ensures) (omega (arith, ints, s))

pub returns-else-byte-eq45 : goal.returns-else-byte-eq45
unfolding derivative_of
returns-else-byte-eq45 c =
    let s = small (goal.at.returns-else-byte-eq45 c).After-value-size in
    rw (← c.byte.ensures, ne_eqb _ 45 c.if-byte-eq45.false, ← c.value-size.ensures) (omega (arith, ints, s))
