-- What the functions ask and owe. Assumes nothing.
use Rattle.std.specs.Prelude.{◌≡◌, ℕ, ◌^◌, ◌≤◌, ℤ, Err, Ok, Result}
use Rattle.integer.specs.Bound.{Within}
use Rattle.trig.specs.Sines.{SinesAt}
use Rattle.kepler.specs.Bracket.{Bracketed}
use Rattle.kepler.specs.Demand.{Demand3}
use Rattle.position.specs.Box.{PlaneBox, CelestialBox}
use Rattle.position.specs.declared.Position.{Position}
use Rattle.orbit.specs.declared.Plane.{Plane}
use Rattle.orbit.specs.declared.State.{State}
use Rattle.elements.specs.declared.Elements.{Elements}
use Rattle.orbit.specs.declared.turns.Phase.{Phase}
use Rattle.orbit.specs.Ellipse.{minor_axis, Between}
use Rattle.orbit.specs.Placement.{plane_of, perigee_at, state_of, placement}
use Rattle.orbit.specs.Revolution.{revolution}
use Rattle.elements.specs.Time.{checked_at}
use Rattle.orbit.specs.Turns.{elapsed_of, mean_anomaly}
use Rattle.refusal.specs.declared.Refusal.{Refusal}

-- ---- turns
pub record Elapsed (el : Elements) (t r : ℤ) : Type 0 where
  pub is : r ≡ elapsed_of el t
  pub small : Within 31_622_400 r

pub record PhaseAt (el : Elements) (t : ℤ) (r : Phase) : Type 0 where
  pub anomaly_is : r.mean_anomaly ≡ mean_anomaly el t
  pub perigee_is : r.argument_of_perigee ≡ perigee_at el t
  pub revolution_is : r.revolution ≡ revolution el t

-- ---- the place on the ellipse
pub record Shape (a e b : ℕ) (cosine sine : ℤ) : Type 0 where
  pub axis_le : a ≤ 100_000_000
  pub eccentricity_le : e ≤ 9_000_000
  pub minor_le : b ≤ 2 ^ 30
  pub cosine_within : Within (2 ^ 30) cosine
  pub sine_within : Within (2 ^ 30) sine

pub record InPlane (a e b : ℕ) (cosine sine : ℤ) (r : Position) : Type 0 where
  pub is : r ≡ plane_of a e b cosine sine
  pub box : PlaneBox r

-- ---- the state
pub record PlaneFor (el : Elements) (r : Plane) : Type 0 where
  pub minor_is : r.minor_axis ≡ minor_axis el.eccentricity
  pub inclination_at : SinesAt el.inclination r.inclination

-- k(E) ≤ M < k(E + 1) and demand 3 for position: M is the mean anomaly of the turns, E the eccentric anomaly that the radius comes from; and
-- the bounds of the celestial position
pub record StateOwes (el : Elements) (t : ℤ) (s : State) : Type 0 where
  pub bracket : Bracketed el.eccentricity (mean_anomaly el t) s.anomaly.angle
  pub demand3 : Demand3 el.eccentricity (mean_anomaly el t) s.anomaly.angle
  pub radius_between : Between el.semi_major_axis el.eccentricity s.radius
  pub box : CelestialBox s.position

pub record StateAt (el : Elements) (t : ℤ) (s : State) : Type 0 where
  pub is : s ≡ state_of el t
  pub owes : StateOwes el t s

-- by the cases of the answer: a state is given whole, and the checks give every refusal
abbrev pub PlacementOwes : Elements → ℤ → Result State Refusal → Type 0
PlacementOwes el t (Ok s) = StateOwes el t s
PlacementOwes el t (Err refusal) = checked_at el t ≡ Err refusal

pub record PlacedAt (el : Elements) (t : ℤ) (r : Result State Refusal) : Type 0 where
  pub is : r ≡ placement el t
  pub owes : PlacementOwes el t r
