-- `two_line_fields::year_of` meets its contract. Assumes nothing.
use Rattle.two_line_fields.proofs.Values.{year_digits}
use Rattle.two_line_fields.proofs.year_of.Goals as goal

pub full_year-requires : goal.full_year-requires
full_year-requires c =
    rw (c.unwrap_or-digits.ensures, c.number_at.ensures, c.layout_of.ensures) (year_digits c.args.line.now)
