-- `sun::centre` meets its contract. Assumes nothing.
use Rattle.std.proofs.Common.{◌+ℤ◌, w64, to_z, of_z}
use Rattle.integer.proofs.TwosComplement.{read_back, read_within}
use Rattle.sun.specs.Sun.{centre_of}
use Rattle.sun.proofs.Constants.{constants}
use Rattle.sun.proofs.Bounds.{centre_read}
use Rattle.sun.proofs.centre.Goals as goal

pub returns : goal.returns
unfolding centre_of
returns c =
    let a = c.scaled-first in
    let b = c.scaled-second in
    let s = c.sine.ensures in
    let r = c.sine-2.ensures in
    centre_read {z = to_z w64 (of_z w64 a.result) +ℤ to_z w64 (of_z w64 b.result)} _
    (rw (
      read_back a.result a.type_inv,
      read_back b.result b.type_inv,
      constants.centre_of_once,
      constants.centre_of_twice,
      rw (read_within s.small tt, s.is) at a.ensures,
      rw (read_within r.small tt, r.is) at b.ensures,
    ))
