-- `eclipse::elevation` meets its contract. Assumes nothing.
use mir.Facts.{to_z-of_z}
use Rattle.integer.proofs.Bounds.{sfits_within}
use Rattle.integer.proofs.TwosComplement.{read_back, read_within}
use Rattle.eclipse.proofs.SolarElevation.{elevation_at}
use Rattle.eclipse.proofs.elevation.Goals as goal

pub overflow_cast-result : goal.overflow_cast-result
overflow_cast-result c = rw (read_within c.held.ensures.small tt) (sfits_within c.held.ensures.small tt)

pub returns : goal.returns
returns c =
    let n = c.normal-n in
    let w = n.ensures.small in
    let d = c.dot in
    let dot_is = rw (read_within w.x_within tt, read_within w.y_within tt, read_within w.z_within tt) at d.ensures in
    let held_at = rw (read_back d.result d.type_inv) at c.held.ensures in
    rw (to_z-of_z (overflow_cast-result c), read_within held_at.small tt) (elevation_at n.ensures dot_is held_at)
