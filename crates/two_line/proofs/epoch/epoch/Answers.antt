-- `two_line::epoch::epoch` meets its contract. Assumes nothing.
use Prim.Native.Nat.{◌^◌, ◌<◌}
use mathlib.Core.Path.{◌≡◌, ◌∙◌}
use native.Mathlib.Omega.{arith}
use lib.IntN.{pos, ◌-ℤ◌}
use mir.Syntax.{w64}
use mir.Val.{SFits, to_z}
use mir.Facts.{to_z-of_z}
use Rattle.std.proofs.lemmas.Int.{ints}
use Rattle.two_line.specs.Reading.{epoch_of}
use Rattle.two_line.proofs.Epochs.{seconds_small}
use Rattle.two_line.proofs.epoch.epoch.Goals as goal
use Rattle.two_line.proofs.epoch.epoch.Goals.{After-seconds}

small : (c : After-seconds) → c.seconds.result < 2 ^ 32
small c = rw c.seconds.ensures (seconds_small c.args.first.now)

held : (c : After-seconds) → to_z w64 c.seconds.result ≡ pos c.seconds.result
held c = omega (arith, ints, small c)

fits : (c : After-seconds) → SFits w64 (to_z w64 c.seconds.result -ℤ pos 1_041_379_200)
fits c = omega (arith, ints, small c)

pub overflow_cast-result : goal.overflow_cast-result
overflow_cast-result c = omega (arith, ints, small c)

pub overflow_sub-result : goal.overflow_sub-result
overflow_sub-result c = fits c

pub returns : goal.returns
unfolding epoch_of
returns c = to_z-of_z (fits c) ∙ rw (held c, c.seconds.ensures)
