-- `two_line::taken_with` meets its contract. Assumes nothing.
use mir.Syntax.{w32, w64}
use mir.Facts.{to_z-of_z}
use Rattle.two_line.specs.Reading.{taken_with}
use Rattle.two_line.proofs.taken_with.Goals as goal

pub returns : goal.returns
unfolding taken_with
returns c =
    rw (c.value.ensures, c.angle.ensures, c.angle-2.ensures, c.moved_back.ensures, c.revolution_back.ensures, c.from.ensures, c.from-2.ensures, c.angle-perigee.ensures, c.angle-anomaly.ensures, c.amount-amount.ensures, c.value-number.ensures, to_z-of_z c.ranges.node_rate, to_z-of_z c.ranges.perigee_rate, to_z-of_z {w = w64} (record { sfits = c.epoch.type_inv }), c.epoch.ensures, to_z-of_z {w = w32} (record { sfits = c.half_derivative.type_inv }), c.half_derivative.ensures)
