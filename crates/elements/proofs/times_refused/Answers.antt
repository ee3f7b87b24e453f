-- `elements::times_refused` meets its contract. Assumes nothing.
use mathlib.Core.Path.{◌∙◌, ap, sym}
use mathlib.Core.Bool.{not}
use Prim.Native.Nat.{ℕ}
use lib.Dec.{ltb}
use mir.Facts.{to_z-of_z}
use Rattle.integer.proofs.Bounds.{sfits_within}
use Rattle.elements.specs.Time.{times_refused}
use Rattle.elements.proofs.Accepted.{apart}
use Rattle.elements.proofs.times_refused.Goals as goal

pub overflow_sub-time : goal.overflow_sub-time
overflow_sub-time c =
    let fe = to_z-of_z c.ranges.epoch in
    let ft = to_z-of_z c.ranges.time in
    let e = ap not (sym (rw fe at c.in_range.ensures) ∙ c.if-not-in_range.false) in
    let t = ap not (sym (rw ft at c.in_range-2.ensures) ∙ c.if-not-in_range-2.false) in
    rw (ft, fe) (sfits_within (apart c.args.epoch c.args.time e t) tt)

pub returns : goal.returns
unfolding times_refused
returns c =
    let d = to_z-of_z (overflow_sub-time c.before) in
    rw (
      ← (rw (to_z-of_z c.ranges.epoch) at c.in_range.ensures),
      c.if-not-in_range.false,
      ← (rw (to_z-of_z c.ranges.time) at c.in_range-2.ensures),
      c.if-not-in_range-2.false,
    )
    (ap (λ (n : ℕ). ltb 31622400 n) (rw (d, to_z-of_z c.ranges.time, to_z-of_z c.ranges.epoch) at c.magnitude.ensures))
