-- `orbit::turns::phase_at` meets its contract. Assumes nothing.
use borrow.Author.Rules.{rules}
use mathlib.Core.Path.{◌≡◌, ◌∙◌, ap}
use Prim.Native.Nat.{◌*◌}
use lib.Dec.{lit≤}
use lib.IntN.{ℤ, pos, ◌+ℤ◌}
use mir.Syntax.{w32, w64}
use mir.Val.{SFits, to_z, of_z}
use mir.Facts.{to_z-of_z}
use Rattle.integer.specs.Bound.{Within}
use Rattle.integer.specs.Division.{mod_z}
use Rattle.integer.proofs.Bounds.{within_add, within_more, sfits_within}
use Rattle.integer.proofs.TwosComplement.{read_back}
use Rattle.orbit.specs.Placement.{perigee_at}
use Rattle.orbit.specs.Revolution.{latitude_of, gain, node_passages, revolution}
use Rattle.orbit.specs.Turns.{elapsed_of, linear_term, quadratic_term, advance, mean_anomaly, drift, drifted}
use Rattle.elements.proofs.Accepted.{AcceptedAt, accepted_at}
use Rattle.orbit.proofs.AdvanceAndDrift.{advance_within}
use Rattle.orbit.proofs.turns.phase_at.Goals as goal
use Rattle.orbit.proofs.turns.phase_at.Goals.{After-drift-drift, After-elapsed-elapsed, After-linear_term-linear, After-quadratic_term-quadratic, After-wrapped-2, Start}

passed : (s : Start) → AcceptedAt s.args.at.elements s.args.at.time
passed s = accepted_at s.args.at.elements s.args.at.time s.args.at.passed

rate_fits : (s : Start) → SFits w32 s.args.at.elements.perigee_rate
rate_fits s = search rules

elapsed_is : (c : After-elapsed-elapsed) → to_z w64 (of_z w64 c.elapsed-elapsed.result) ≡ elapsed_of c.args.at.elements c.args.at.time
elapsed_is c =
    read_back c.elapsed-elapsed.result c.elapsed-elapsed.type_inv ∙ c.elapsed-elapsed.ensures.is

-- ---- the two terms of A, and A, as the machine holds them
pub linear_term-linear-requires : goal.linear_term-linear-requires
linear_term-linear-requires c = rw (elapsed_is c) ((passed (goal.at.linear_term-linear-requires c).Start).elements.motion_le, (passed (goal.at.linear_term-linear-requires c).Start).near.elapsed)

linear_small : (c : After-linear_term-linear) → Within (8000 * 4294967296) (to_z w64 (of_z w64 c.linear_term-linear.result))
linear_small c = rw (read_back c.linear_term-linear.result c.linear_term-linear.type_inv) c.linear_term-linear.ensures.1

linear_is : (c : After-linear_term-linear) → let a = c.args.at in to_z w64 (of_z w64 c.linear_term-linear.result) ≡ linear_term a.elements.mean_motion (elapsed_of a.elements a.time)
linear_is c =
    read_back c.linear_term-linear.result c.linear_term-linear.type_inv ∙ rw (elapsed_is (goal.at.After-linear_term-linear c).After-elapsed-elapsed) at c.linear_term-linear.ensures.0

derivative_fits : (s : Start) → SFits w32 s.args.at.elements.half_mean_motion_derivative
derivative_fits s = search rules

pub quadratic_term-quadratic-requires : goal.quadratic_term-quadratic-requires
quadratic_term-quadratic-requires c =
    rw (elapsed_is (goal.at.quadratic_term-quadratic-requires c).After-elapsed-elapsed, to_z-of_z (derivative_fits (goal.at.quadratic_term-quadratic-requires c).Start)) (passed (goal.at.quadratic_term-quadratic-requires c).Start).near

quadratic_small : (c : After-quadratic_term-quadratic) → Within (10 * 4294967296) (to_z w64 (of_z w64 c.quadratic_term-quadratic.result))
quadratic_small c = rw (read_back c.quadratic_term-quadratic.result c.quadratic_term-quadratic.type_inv) c.quadratic_term-quadratic.ensures.1

quadratic_is : (c : After-quadratic_term-quadratic) → let a = c.args.at in to_z w64 (of_z w64 c.quadratic_term-quadratic.result) ≡ quadratic_term a.elements.half_mean_motion_derivative (elapsed_of a.elements a.time)
quadratic_is c =
    read_back c.quadratic_term-quadratic.result c.quadratic_term-quadratic.type_inv ∙ rw (elapsed_is (goal.at.After-quadratic_term-quadratic c).After-elapsed-elapsed, to_z-of_z (derivative_fits (goal.at.After-quadratic_term-quadratic c).Start)) at c.quadratic_term-quadratic.ensures.0

pub overflow_add-advance : goal.overflow_add-advance
overflow_add-advance c = sfits_within (within_add (linear_small (goal.at.overflow_add-advance c).After-linear_term-linear) (quadratic_small c)) tt

advance_is : (c : After-quadratic_term-quadratic) → let a = c.args.at in to_z w64 (of_z w64 (to_z w64 (of_z w64 c.linear_term-linear.result) +ℤ to_z w64 (of_z w64 c.quadratic_term-quadratic.result))) ≡ advance a.elements a.time
unfolding advance
advance_is c = to_z-of_z (overflow_add-advance c) ∙ rw (linear_is (goal.at.After-quadratic_term-quadratic c).After-linear_term-linear, quadratic_is c)

advance_small : (c : After-quadratic_term-quadratic) → Within (9000 * 4294967296) (to_z w64 (of_z w64 (to_z w64 (of_z w64 c.linear_term-linear.result) +ℤ to_z w64 (of_z w64 c.quadratic_term-quadratic.result))))
advance_small c =
    let a = passed (goal.at.After-quadratic_term-quadratic c).Start in
    rw (advance_is c) (advance_within _ _ a.elements.motion_le a.near)

-- ---- B, as the machine holds it
pub drift-drift-requires : goal.drift-drift-requires
drift-drift-requires c =
    let a = passed (goal.at.drift-drift-requires c).Start in
    rw (elapsed_is (goal.at.drift-drift-requires c).After-elapsed-elapsed, to_z-of_z (rate_fits (goal.at.drift-drift-requires c).Start)) (a.elements.perigee_rate, a.near.elapsed)

drift_small : (c : After-drift-drift) → Within (1000 * 4294967296) (to_z w64 (of_z w64 c.drift-drift.result))
drift_small c = rw (read_back c.drift-drift.result c.drift-drift.type_inv) c.drift-drift.ensures.1

drift_is : (c : After-drift-drift) → let a = c.args.at in to_z w64 (of_z w64 c.drift-drift.result) ≡ drift a.elements.perigee_rate (elapsed_of a.elements a.time)
drift_is c =
    read_back c.drift-drift.result c.drift-drift.type_inv ∙ rw (elapsed_is (goal.at.After-drift-drift c).After-elapsed-elapsed, to_z-of_z (rate_fits (goal.at.After-drift-drift c).Start)) at c.drift-drift.ensures.0

-- ---- the two angles
-- ---- the revolution
sum_within : {x y : ℤ} → Within (9000 * 4294967296) x → Within (1000 * 4294967296) y → Within (10000 * 4294967296) (x +ℤ y)
sum_within h k = within_more (within_add h k) (lit≤ tt)

sum_fits : {x y : ℤ} → Within (9000 * 4294967296) x → Within (1000 * 4294967296) y → SFits w64 (x +ℤ y)
sum_fits h k = sfits_within (sum_within h k) tt

pub overflow_add-advance-2 : goal.overflow_add-advance-2
overflow_add-advance-2 c =
    let l = within_more {b = 9000 * 4294967296} (linear_small (goal.at.overflow_add-advance-2 c).After-linear_term-linear) (lit≤ tt) in
    let a = advance_small (goal.at.overflow_add-advance-2 c).After-quadratic_term-quadratic in
    let b = drift_small (goal.at.overflow_add-advance-2 c).After-drift-drift in
    search (rules, sum_fits)

pub revolution-requires : goal.revolution-requires
revolution-requires c =
    let l = within_more {b = 9000 * 4294967296} (linear_small (goal.at.revolution-requires c).After-linear_term-linear) (lit≤ tt) in
    let a = advance_small (goal.at.revolution-requires c).After-quadratic_term-quadratic in
    let b = drift_small (goal.at.revolution-requires c).After-drift-drift in
    let e = (passed (goal.at.revolution-requires c).Start).elements.revolution_le in
    rw (to_z-of_z (overflow_add-advance-2 c)) (e, search (rules, sum_within))

gain_is : (c : After-drift-drift) → let a = c.args.at in to_z w64 (of_z w64 (to_z w64 (of_z w64 c.linear_term-linear.result) +ℤ to_z w64 (of_z w64 c.quadratic_term-quadratic.result))) +ℤ to_z w64 (of_z w64 c.drift-drift.result) ≡ gain a.elements a.time
unfolding gain
gain_is c = rw (advance_is (goal.at.After-drift-drift c).After-quadratic_term-quadratic, drift_is c)

pub returns : goal.returns
unfolding mean_anomaly perigee_at drifted revolution
returns c =
    let a = c.args.at in
    record {
      anomaly_is = c.wrapped.ensures ∙ ap (λ (x : ℤ). mod_z (pos a.elements.mean_anomaly +ℤ x) 4294967296) (advance_is (goal.at.returns c).After-quadratic_term-quadratic);
      perigee_is = rw (drift_is (goal.at.returns c).After-drift-drift) at c.wrapped-2.ensures;
      revolution_is = to_z-of_z {w = w32} (record { sfits = c.revolution.type_inv }) ∙ c.revolution.ensures
          ∙ ap (λ (x : ℤ). pos a.elements.epoch_revolution +ℤ node_passages (latitude_of a.elements) x) (to_z-of_z (overflow_add-advance-2 (goal.at.returns c).After-wrapped-2) ∙ gain_is (goal.at.returns c).After-drift-drift);
    }
