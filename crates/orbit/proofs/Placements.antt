-- The state and the placement from their parts, and what a state that was given owes. Assumes nothing.
use mathlib.Core.Path.{◌≡◌, refl, sym, ◌∙◌, subst}
use Prim.Native.Nat.{ℕ, ◌^◌, ◌<◌}
use native.Mathlib.Omega.{arith}
use lib.Dec.{lit<}
use lib.IntN.{ℤ, pos, ◌+ℤ◌}
use lib.Signed.{◌≤ℤ◌}
use Rattle.integer.proofs.Division.{mod_below}
use Rattle.trig.specs.Sine.{C}
use Rattle.trig.proofs.Quarters.{S-within, C-within}
use Rattle.refusal.specs.declared.Refusal.{Refusal}
use Rattle.kepler.specs.Contract.{AnomalyAt}
use Rattle.kepler.specs.declared.Anomaly.{Anomaly}
use Rattle.kepler.proofs.Answer.{anomaly_demand3}
use Rattle.kepler.proofs.Bracket.{always_bracketed}
use Rattle.position.specs.declared.Position.{Position}
use Rattle.position.proofs.Bounds.{celestial_box}
use Rattle.orbit.specs.declared.State.{State}
use Rattle.elements.specs.declared.Elements.{Elements}
use Rattle.orbit.specs.Contract.{StateOwes, StateAt}
use Rattle.orbit.specs.Ellipse.{radius}
use Rattle.orbit.specs.Placement.{in_plane, celestial_at, node_at, anomaly_of, state_of, placement_of, placement}
use Rattle.orbit.specs.Revolution.{revolution}
use Rattle.elements.specs.Time.{checked_at}
use Rattle.orbit.specs.Turns.{advance, mean_anomaly}
use Rattle.elements.proofs.Accepted.{AcceptedAt, accepted_at}
use Rattle.orbit.proofs.Distances.{minor_le, plane_box, radius_between}
use Rattle.orbit.proofs.Revolution.{never_falls}
use Rattle.std.specs.Prelude.{Err, Ok, Result}

module _ (el : Elements) (t : ℤ) where
  -- a state by its fields
  pub state_is : {r : Anomaly} {n R : ℤ} {M Ω : ℕ} {p : Position} → r ≡ anomaly_of el (mean_anomaly el t) → n ≡ revolution el t → M ≡ mean_anomaly el t
      → p ≡ celestial_at el t (anomaly_of el (mean_anomaly el t)).angle → R ≡ radius el.semi_major_axis el.eccentricity (C (anomaly_of el (mean_anomaly el t)).angle) → Ω ≡ node_at el t
      → ◌≡◌ {A = State} (record { revolution = n; mean_anomaly = M; anomaly = r; position = p; radius = R; node = Ω }) (state_of el t)
  unfolding state_of
  state_is k a b c d e =
      λ i. record { revolution = a i; mean_anomaly = b i; anomaly = k i; position = c i; radius = d i; node = e i }

  -- the definition's eccentric anomaly
  pub anomaly_is : (r : Anomaly) → AnomalyAt el.eccentricity (mean_anomaly el t) r → r ≡ anomaly_of el (mean_anomaly el t)
  unfolding anomaly_of
  anomaly_is r h = λ i. record { angle = h.angle_is i; halvings = h.halvings_is i }

  pub placement_refused : (r : Refusal) → checked_at el t ≡ Err r → Err r ≡ placement el t
  unfolding placement placement_of
  placement_refused r e = rw e

  pub placement_placed : checked_at el t ≡ Ok tt → Ok (state_of el t) ≡ placement el t
  unfolding placement placement_of
  placement_placed e = rw e

  -- ---- what a state owes
  mean_anomaly_below : mean_anomaly el t < 2 ^ 32
  unfolding mean_anomaly
  mean_anomaly_below = mod_below (pos el.mean_anomaly +ℤ advance el t) (2 ^ 32) (lit< tt)

  state_owes : AcceptedAt el t → StateOwes el t (state_of el t)
  unfolding state_of anomaly_of celestial_at in_plane
  state_owes a =
      let e = a.elements.eccentricity_le in
      let below = mean_anomaly_below in
      record {
        bracket = always_bracketed _ _ e below;
        demand3 = anomaly_demand3 _ _ e below;
        radius_between = radius_between _ _ _ e (C-within _);
        box = celestial_box _ _ _ (plane_box _ _ _ _ _ a.elements.axis_le e (minor_le _) (C-within _) (S-within _));
      }

  pub state_at : {s : State} → checked_at el t ≡ Ok tt → s ≡ state_of el t → StateAt el t s
  state_at passed is =
      record { is = is; owes = subst (StateOwes el t) (sym is) (state_owes (accepted_at el t passed)) }

  pub placed_passed : {s : State} → placement el t ≡ Ok s → checked_at el t ≡ Ok tt
  placed_passed given = by (checked_at el t) refl
    where
      by : (v : Result Unit Refusal) → checked_at el t ≡ v → checked_at el t ≡ Ok tt
      by (Ok tt) e = e
      by (Err r) e =
          let p = placement_refused r e ∙ given in
          let z : ◌≡◌ {A = ℕ} 0 1 = cc in absurd (omega arith)

  -- a state that was given is that of the time
  placed_is : {s : State} → placement el t ≡ Ok s → s ≡ state_of el t
  placed_is given = let q = placement_placed (placed_passed given) ∙ given in cc

  -- a state that was given: what it is, k(E) ≤ M < k(E + 1), demand 3, the radius between perigee and apogee, and the bounds of the position
  pub placed_state : (s : State) → placement el t ≡ Ok s → StateAt el t s
  placed_state s given = state_at (placed_passed given) (placed_is given)

-- of two states that were given for the same elements, the later has no lower revolution
pub later_placed : (el : Elements) (t t' : ℤ) {s s' : State} → placement el t ≡ Ok s → placement el t' ≡ Ok s' → t ≤ℤ t' → s.revolution ≤ℤ s'.revolution
unfolding state_of
later_placed el t t' given given' le =
    rw (placed_is el t given, placed_is el t' given')
    (never_falls el t t' (placed_passed el t given) (placed_passed el t' given') le)
