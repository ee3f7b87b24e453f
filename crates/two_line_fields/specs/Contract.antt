-- What the reader's functions ask of one another. Assumes nothing.
use Rattle.std.specs.Prelude.{ℕ, ◌+◌, ◌*◌, ◌^◌, ◌≤◌}
use Rattle.two_line_fields.specs.declared.Layout.{Layout}

-- some columns near a line, and digits for which 64 bits have room behind those of m
pub record Room (column n m : ℕ) : Type 0 where
  pub from : 1 ≤ column
  pub near : column + n ≤ 200
  pub digits : (m + 1) * 10 ^ n ≤ 10 ^ 18

-- a layout from a column on, with room for its digits
pub record InLine (column : ℕ) (l : Layout) : Type 0 where
  pub from : 1 ≤ column
  pub to : column ≤ 69
  pub digits : l.ahead + l.behind ≤ 11
