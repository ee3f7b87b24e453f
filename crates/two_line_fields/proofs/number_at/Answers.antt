-- `two_line_fields::number_at` meets its contract. Assumes nothing.
use mathlib.Core.Path.{sym, ◌∙◌}
use Rattle.two_line_fields.proofs.Layouts.{width_from, room_ahead, room_behind_point}
use Rattle.two_line_fields.proofs.number_at.Goals as goal

pub further-requires : goal.further-requires
further-requires c =
    let l = c.args.layout in
    rw (c.from.ensures, width_from l.sign) (room_ahead c.args.column l c.requires)

pub further-requires-2 : goal.further-requires-2
further-requires-2 c =
    let l = c.args.layout in
    let whole = sym (rw (c.from.ensures, width_from l.sign) at c.further.ensures) ∙ c.in_ok-whole.was in
    rw (c.from.ensures, c.from-2.ensures, width_from l.sign, width_from l.point) (rw whole at (room_behind_point c.args.line.now c.args.column l c.requires))
