-- `kepler::equation` meets its contract. Assumes nothing.
use Rattle.std.proofs.Common.{arith}
use Rattle.kepler.proofs.Computed.{h_of}
use Rattle.kepler.proofs.Halves.{k_upper, k_lower}
use Rattle.kepler.proofs.equation.Goals as goal

pub overflow_sub-result : goal.overflow_sub-result
overflow_sub-result c = (h_of _ _ _ c.requires.0 c.sine_magnitude-s.ensures.is).at_most

pub returns-then-angle-lt-HALF_TURN : goal.returns-then-angle-lt-HALF_TURN
returns-then-angle-lt-HALF_TURN c =
    let h = h_of _ _ _ c.requires.0 c.sine_magnitude-s.ensures.is in
    omega (arith, h.is, k_upper c.args.e _ c.if-angle-lt-HALF_TURN.true)

pub returns-else-angle-lt-HALF_TURN : goal.returns-else-angle-lt-HALF_TURN
returns-else-angle-lt-HALF_TURN c =
    let h = h_of _ _ _ c.requires.0 c.sine_magnitude-s.ensures.is in
    omega (arith, h, h.is, k_lower c.args.e _ c.if-angle-lt-HALF_TURN.false c.requires.1)
