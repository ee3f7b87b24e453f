-- `eclipse::held` meets its contract. Assumes nothing.
use mathlib.Core.Path.{◌∙◌}
use mir.Facts.{to_z-of_z}
use Rattle.integer.proofs.TwosComplement.{read_back}
use Rattle.eclipse.proofs.SolarElevation.{held_at, clamp_is}
use Rattle.eclipse.proofs.held.Goals as goal

pub returns : goal.returns
returns c =
    held_at _ (read_back c.clamp.result c.clamp.type_inv ∙ rw (to_z-of_z c.ranges.sine) at c.clamp.ensures.value ∙ clamp_is _)
