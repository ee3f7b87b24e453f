-- `two_line_fields::days_before` meets its contract. Assumes nothing.
use Rattle.two_line_fields.proofs.Values.{year_range}
use Rattle.two_line_fields.proofs.days_before.Goals as goal

pub days_before-requires : goal.days_before-requires
days_before-requires c = rw c.year_of.ensures (year_range c.args.line.now)
