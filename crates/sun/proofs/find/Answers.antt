-- `sun::find` meets its contract. Assumes nothing.
use Rattle.std.proofs.Common.{◌≡◌, sym, ◌∙◌, to_z-of_z}
use Rattle.time.specs.Range.{in_range}
use Rattle.sun.specs.Sun.{sun_answer}
use Rattle.sun.proofs.find.Goals as goal
use Rattle.sun.proofs.find.Goals.{After-in_range}

in_range_is : (c : After-in_range) → c.in_range.result ≡ in_range c.before.args.time
in_range_is c = rw (to_z-of_z c.before.ranges.time) at c.in_range.ensures

pub sun_at-requires : goal.sun_at-requires
sun_at-requires c =
    rw (to_z-of_z c.before.before.ranges.time) (sym (in_range_is c.before) ∙ c.if-in_range.true)

pub returns-then-in_range : goal.returns-then-in_range
unfolding sun_answer
returns-then-in_range c =
    let s = c.before.before.before in
    let e = sym (in_range_is c.before.before) ∙ c.before.if-in_range.true in
    let f = rw (to_z-of_z s.ranges.time) at c.sun_at.ensures in
    record { is = rw (e, f.is); small = f.small }

pub returns-else-in_range : goal.returns-else-in_range
unfolding sun_answer
returns-else-in_range c =
    let e = sym (in_range_is c.before) ∙ c.if-in_range.false in
    record { is = rw e; small = tt }
