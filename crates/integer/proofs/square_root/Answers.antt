-- `integer::square_root` meets its contract. Assumes nothing.
use native.Mathlib.Omega.{arith}
use Rattle.integer.proofs.DigitByDigit.{no_round, one_round, room, all_rounds}
use Rattle.integer.proofs.square_root.Goals as goal

pub loop-init : goal.loop-init
loop-init c = (no_round _ _ c.ranges.n.fits (omega arith) (omega arith), omega arith)

pub next_bit-partial-requires : goal.next_bit-partial-requires
next_bit-partial-requires c =
    let a = c.loop.invariant.0 in
    (a.root_so_far, room _ _ _ _ a (omega arith), omega arith)

pub loop-preserved : goal.loop-preserved
loop-preserved c =
    (one_round _ _ _ _ _ _ _ c.loop.invariant.0 c.next_bit-partial.ensures (omega arith) (omega arith), omega arith)

pub returns : goal.returns
returns c = all_rounds _ _ _ _ c.loop.invariant.0 (omega arith)
