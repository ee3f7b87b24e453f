-- `kepler::halve` meets its contract. Assumes nothing.
use Rattle.std.proofs.Common.{arith}
use Rattle.kepler.proofs.Recursion.{half_width, none_left, shifted, halved}
use Rattle.kepler.proofs.+halve.Goals as goal

pub returns-then-left-eq0 : goal.returns-then-left-eq0
returns-then-left-eq0 t c = none_left _ _ _ _ _ c.if-left-eq0.true c.requires.1

pub halve-requires : goal.halve-requires
halve-requires t c =
    let w = half_width _ _ c.if-left-eq0.false c.requires.1 in
    let h = halved _ _ _ _ _ _ _ c.if-left-eq0.false c.requires.1 c.requires.3 c.requires.4 (rw (shifted _ _ _ c.requires.1) at c.raised.ensures) in
    (omega (arith, w.falls), (c.requires.0, w.power, omega arith, h.fits, h.decides))

pub returns : goal.returns
returns t c =
    let h = halved _ _ _ _ _ _ _ c.if-left-eq0.false c.requires.1 c.requires.3 c.requires.4 (rw (shifted _ _ _ c.requires.1) at c.raised.ensures) in
    h.is _ c.halve.ensures
