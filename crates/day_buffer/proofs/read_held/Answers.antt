-- `day_buffer::read_held` meets its contract. Assumes nothing.
use mathlib.Core.Path.{◌∙◌}
use Rattle.endian.proofs.Slices.{rest_part}
use Rattle.day_buffer.proofs.read_held.Goals as goal

pub returns : goal.returns
returns c = c.copy_from_slice.ensures.after ∙ rest_part c.args.buffer.now 74
