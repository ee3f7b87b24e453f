-- `orbit::ellipse::Ellipse::in_plane` meets its contract. Assumes nothing.
use mathlib.Core.Path.{refl, ◌∙◌}
use mir.Facts.{to_z-of_z}
use Rattle.integer.proofs.TwosComplement.{read_back}
use Rattle.position.proofs.Components.{same_position}
use Rattle.orbit.specs.Placement.{plane_of}
use Rattle.orbit.proofs.Distances.{plane_box}
use Rattle.orbit.proofs.ellipse.Ellipse.in_plane.Goals as goal

pub returns : goal.returns
unfolding plane_of
returns c =
    let x = c.x in
    let y = c.y in
    let is = same_position (read_back x.result x.type_inv ∙ rw (to_z-of_z c.ranges.cosine) at x.ensures)
    (read_back y.result y.type_inv ∙ rw (to_z-of_z c.ranges.sine) at y.ensures) refl in
    let s = c.args.self in
    record { is = is; box = rw is (plane_box _ _ _ _ _ s.axis_le s.eccentricity_le s.minor_le c.requires.0 c.requires.1) }
