-- What holds of the rows that a table was found to have, and the room that putting asks for. Assumes nothing.
use Rattle.std.specs.Prelude.{ℕ, ◌+◌, ◌*◌, ◌≤◌}
use Rattle.element_sets.specs.Table.{row_size}
use Rattle.element_sets.specs.Putting.{end_with}

-- from number `earlier` up to number `later`, one row at most
pub record OneAtMost (earlier later : ℕ) : Type 0 where
  pub order : earlier ≤ later
  pub one : later ≤ earlier + 1

-- a table of some size with the rows up to number `later`, in a buffer that has room for a row in the place of those from `earlier` on
pub record Roomy (earlier later size room : ℕ) : Type 0 where
  pub rows : row_size * later ≤ size
  pub held : size ≤ room
  pub end : end_with earlier later size ≤ room
