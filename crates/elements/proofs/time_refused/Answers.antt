-- `elements::time_refused` meets its contract. Assumes nothing.
use mathlib.Core.Path.{◌≡◌, ◌∙◌, ap, sym}
use mathlib.Core.Bool.{false}
use Prim.Native.Nat.{ℕ}
use native.Mathlib.Omega.{arith}
use borrow.Author.Rules.{rules}
use borrow.Author.Tests.{lt-ltb}
use lib.Dec.{ltb}
use lib.IntN.{nat_abs}
use mir.Syntax.{w32, w64}
use mir.Val.{SFits}
use mir.Facts.{to_z-of_z, sfits_widen}
use Rattle.integer.proofs.Bounds.{sfits_within}
use Rattle.elements.specs.Time.{times_refused, time_refused}
use Rattle.elements.proofs.Accepted.{within_year}
use Rattle.elements.proofs.time_refused.Goals as goal
use Rattle.elements.proofs.time_refused.Goals.{Then-size-gt0}

module _ (c : Then-size-gt0) where
  epoch_fits : SFits w64 c.args.elements.epoch
  epoch_fits = search rules

  derivative_fits : SFits w32 c.args.elements.half_mean_motion_derivative
  derivative_fits = search rules

  -- a time that is within the year
  near : times_refused c.args.elements.epoch c.args.time ≡ false
  near = sym (rw (to_z-of_z epoch_fits, to_z-of_z c.ranges.time) at c.times_refused.ensures) ∙ c.if-times_refused.false

  size_is : c.magnitude-size.result ≡ nat_abs c.args.elements.half_mean_motion_derivative
  size_is = rw (to_z-of_z derivative_fits, to_z-of_z {w = w64} (sfits_widen tt derivative_fits)) at c.magnitude-size.ensures

pub overflow_sub-time : goal.overflow_sub-time
overflow_sub-time c =
    rw (to_z-of_z c.ranges.time, to_z-of_z (epoch_fits c)) (sfits_within (within_year c.args.elements.epoch c.args.time (near c)) tt)

pub returns-then-size-gt0 : goal.returns-then-size-gt0
unfolding time_refused
returns-then-size-gt0 c =
    let b = c.before in
    let size = nat_abs c.args.elements.half_mean_motion_derivative in
    let apart = rw (to_z-of_z (overflow_sub-time b), to_z-of_z c.ranges.time, to_z-of_z (epoch_fits b)) at c.magnitude.ensures in
    rw (near b, lt-ltb 0 size (omega (arith, size_is b))) (ap (λ (n : ℕ). ltb 2592000 n) apart)
