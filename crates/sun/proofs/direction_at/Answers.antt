-- `sun::direction_at` meets its contract. Assumes nothing.
use Rattle.std.proofs.Common.{◌∙◌}
use Rattle.integer.proofs.TwosComplement.{read_back, read_within}
use Rattle.sun.specs.Sun.{direction_of}
use Rattle.sun.proofs.Constants.{constants}
use Rattle.sun.proofs.Components.{same_direction}
use Rattle.sun.proofs.Bounds.{direction_at}
use Rattle.sun.proofs.direction_at.Goals as goal

pub returns : goal.returns
unfolding direction_of
returns c =
    let s = c.sine-s.ensures in
    let k = c.cosine.ensures in
    let p = c.scaled in
    let q = c.scaled-2 in
    let sr = read_within s.small tt in
    direction_at
    _
    (rw (constants.obliquity_cosine, constants.obliquity_sine)
    (same_direction
    (read_within k.small tt ∙ k.is)
    (read_back p.result p.type_inv ∙ rw (sr, s.is) at p.ensures)
    (read_back q.result q.type_inv ∙ rw (sr, s.is) at q.ensures)))
