-- `orbit::turns::drift` meets its contract. Assumes nothing.
use borrow.Author.Rules.{rules}
use mathlib.Core.Path.{◌≡◌, ◌∙◌, ap}
use Prim.Native.Nat.{◌*◌}
use lib.Dec.{lit≤}
use lib.IntN.{ℤ, pos, ◌*ℤ◌}
use mir.Syntax.{w32, w64}
use mir.Val.{SFits, to_z, of_z}
use mir.Facts.{to_z-of_z, sfits_widen}
use Rattle.integer.specs.Bound.{Within}
use Rattle.integer.specs.Division.{floor_z}
use Rattle.integer.proofs.Bounds.{within_pos, within_mul, sfits_within}
use Rattle.orbit.specs.Turns.{drift}
use Rattle.orbit.proofs.AdvanceAndDrift.{drift_within}
use Rattle.orbit.proofs.turns.drift.Goals as goal
use Rattle.orbit.proofs.turns.drift.Goals.{After-floor_div, Start}

pub overflow_cast-rate : goal.overflow_cast-rate
overflow_cast-rate c = rw (to_z-of_z c.ranges.rate) (sfits_widen tt c.ranges.rate)

rate_is : (c : Start) → to_z w64 (of_z w64 (to_z w32 (of_z w32 c.args.rate))) ≡ c.args.rate
rate_is c = to_z-of_z (overflow_cast-rate c) ∙ to_z-of_z c.ranges.rate

-- rate·Δ·2^18
abbrev product : Start → ℤ
product c = c.args.rate *ℤ c.args.elapsed *ℤ pos 262144

product_within : (c : Start) → Within (200000 * 31622400 * 262144) (product c)
product_within c = within_mul (within_mul c.requires.0 c.requires.1) (within_pos {a = 262144} (lit≤ tt))

pub overflow_mul-rate : goal.overflow_mul-rate
overflow_mul-rate c = rw (rate_is c, to_z-of_z c.ranges.elapsed) (sfits_within (within_mul c.requires.0 c.requires.1) tt)

pub overflow_mul-rate-2 : goal.overflow_mul-rate-2
overflow_mul-rate-2 c = rw (to_z-of_z (overflow_mul-rate c), rate_is c, to_z-of_z c.ranges.elapsed) (sfits_within (product_within c) tt)

quotient_fits : (c : After-floor_div) → SFits w64 c.floor_div.result.quotient
quotient_fits c = search rules

-- the product that the code divides
product_is : (c : Start) → to_z w64 (of_z w64 (to_z w64 (of_z w64 (to_z w64 (of_z w64 (to_z w32 (of_z w32 c.args.rate))) *ℤ to_z w64 (of_z w64 c.args.elapsed))) *ℤ pos 262144)) ≡ product c
product_is c =
    to_z-of_z (overflow_mul-rate-2 c) ∙ rw (to_z-of_z (overflow_mul-rate c), rate_is c, to_z-of_z c.ranges.elapsed)

quotient_is : (c : After-floor_div) → to_z w64 (of_z w64 c.floor_div.result.quotient) ≡ drift c.args.rate c.args.elapsed
unfolding drift
quotient_is c =
    to_z-of_z (quotient_fits c) ∙ c.floor_div.ensures.quotient_is ∙ ap (λ (z : ℤ). floor_z z 18984375) (product_is (goal.at.After-floor_div c).Start)

pub returns : goal.returns
returns c =
    let e = quotient_is (goal.at.returns c).After-floor_div in (e, rw e (drift_within _ _ c.requires.0 c.requires.1))
