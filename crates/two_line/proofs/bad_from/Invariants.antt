use mathlib.Core.Path.{◌≡◌}
use lib.ListN.{drop}
use Rattle.two_line_fields.specs.Fields.{bad_from}
use Rattle.two_line.proofs.bad_from.Given as goal

-- no field so far is bad
abbrev pub invariant-loop-field : goal.invariant-loop-field
invariant-loop-field l =
    bad_from l.ahead l.line (drop l.field-index l.fields) l.later ≡ bad_from l.ahead l.line l.fields l.later
