-- `orbit::position` meets its contract. Assumes nothing.
use mathlib.Core.Path.{◌≡◌, ◌∙◌, ap, subst, sym}
use mir.Facts.{to_z-of_z}
use Rattle.elements.proofs.Accepted.{accepted_at}
use Rattle.elements.specs.Time.{checked_at}
use Rattle.orbit.specs.Contract.{PlacedAt, StateAt}
use Rattle.orbit.proofs.Placements.{placement_refused, placement_placed}
use Rattle.orbit.proofs.position.Goals as goal
use Rattle.orbit.proofs.position.Goals.{In_ok-at}
use Rattle.std.proofs.lemmas.Result.{err_from_is_err_and}
use Rattle.std.specs.Prelude.{Err, Ok}

-- they are these elements and this time
at_is : (c : In_ok-at) → (c.in_ok-at.at.elements ≡ c.args.elements) × (c.in_ok-at.at.time ≡ c.args.time)
at_is c = rw (to_z-of_z c.ranges.time) at c.in_ok-at.ensures.ok

passed : (c : In_ok-at) → checked_at c.args.elements c.args.time ≡ Ok tt
passed c = let h = at_is c in rw (h.0, h.1) at c.in_ok-at.at.passed

pub of-plane-requires : goal.of-plane-requires
of-plane-requires c = (accepted_at _ _ (passed (goal.at.of-plane-requires c).In_ok-at)).elements.eccentricity_le

pub returns-in_err-at : goal.returns-in_err-at
returns-in_err-at c =
    let a = c.args in
    let p = err_from_is_err_and c.from_residual.result c.from_residual.ensures.1 in
    let e = rw (to_z-of_z c.ranges.time) at c.in_err-at.ensures.refused in
    subst (PlacedAt a.elements a.time) (sym (p.1 ∙ ap Err p.2)) (record { is = placement_refused a.elements a.time _ e; owes = e })

pub returns : goal.returns
returns c =
    let o = (goal.at.returns c).In_ok-at in
    let h = at_is o in
    let state : StateAt c.args.elements c.args.time c.state_at.result = rw (h.0, h.1) at c.state_at.ensures in
    record { is = ap Ok state.is ∙ placement_placed c.args.elements c.args.time (passed o); owes = state.owes }
