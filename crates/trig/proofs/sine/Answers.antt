-- `trig::sine` meets its contract. Assumes nothing.
use borrow.Author.Rules.{rules}
use Rattle.trig.proofs.Signs.{upper_sine, lower_sine}
use Rattle.trig.proofs.sine.Goals as goal

pub returns-then-angle-lt2147483648 : goal.returns-then-angle-lt2147483648
returns-then-angle-lt2147483648 c = upper_sine _ _ c.sine_magnitude-magnitude.ensures c.if-angle-lt2147483648.true

pub returns-else-angle-lt2147483648 : goal.returns-else-angle-lt2147483648
returns-else-angle-lt2147483648 c = lower_sine _ _ c.sine_magnitude-magnitude.ensures c.if-angle-lt2147483648.false (search rules)
