use Prim.Native.Nat.{◌+◌, ◌*◌, ◌-◌, ◌^◌, ◌≤◌}
use mathlib.Core.Path.{◌≡◌}
use Rattle.two_line_fields.specs.Decimals.{further}
use Rattle.two_line_fields.proofs.further.Given as goal

abbrev pub invariant-loop-i : goal.invariant-loop-i
invariant-loop-i l =
    ((l.value + 1) * 10 ^ (l.columns - l.i) ≤ 10 ^ 18) × (further l.line (l.column + l.i) (l.columns - l.i) l.leading l.value ≡ further l.line l.column l.columns l.blanks l.ahead)
