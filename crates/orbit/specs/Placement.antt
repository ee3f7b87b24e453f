-- The position of a satellite: document 01, "From elements to position". Assumes nothing.
use Rattle.std.specs.Prelude.{ℕ, ℤ, pos, Err, Ok, Result}
use Rattle.trig.specs.Sine.{S, C}
use Rattle.kepler.specs.Kepler.{anomaly, halvings}
use Rattle.kepler.specs.declared.Anomaly.{Anomaly}
use Rattle.position.specs.Turn.{celestial_of}
use Rattle.position.specs.declared.Position.{Position}
use Rattle.orbit.specs.declared.State.{State}
use Rattle.elements.specs.declared.Elements.{Elements}
use Rattle.orbit.specs.Ellipse.{minor_axis, in_plane_x, in_plane_y, radius}
use Rattle.orbit.specs.Revolution.{revolution}
use Rattle.elements.specs.Time.{checked_at}
use Rattle.orbit.specs.Turns.{elapsed_of, mean_anomaly, drifted}
use Rattle.refusal.specs.declared.Refusal.{Refusal}

-- (X, Y, 0) from a, e, b, C(E) and S(E)
unfoldable pub plane_of : ℕ → ℕ → ℕ → ℤ → ℤ → Position
plane_of a e b cosine sine = record { x = in_plane_x a e cosine; y = in_plane_y a b sine; z = pos 0 }

unfoldable pub in_plane : Elements → ℕ → Position
in_plane el E = plane_of el.semi_major_axis el.eccentricity (minor_axis el.eccentricity) (C E) (S E)

-- the node and the argument of perigee, as drifted
unfoldable pub node_at : Elements → ℤ → ℕ
node_at el t = drifted el.node el.node_rate (elapsed_of el t)

unfoldable pub perigee_at : Elements → ℤ → ℕ
perigee_at el t = drifted el.argument_of_perigee el.perigee_rate (elapsed_of el t)

-- the celestial position
unfoldable pub celestial_at : Elements → ℤ → ℕ → Position
celestial_at el t E = celestial_of (in_plane el E) (perigee_at el t) el.inclination (node_at el t)

-- the eccentric anomaly of a mean anomaly M
unfoldable pub anomaly_of : Elements → ℕ → Anomaly
anomaly_of el M = record { angle = anomaly el.eccentricity M; halvings = halvings el.eccentricity }

-- the state at a time that has this revolution and the mean anomaly M
abbrev pub state_with : Elements → ℤ → ℤ → ℕ → State
state_with el t number M =
    let E = (anomaly_of el M).angle in
    record {
      revolution = number;
      mean_anomaly = M;
      anomaly = anomaly_of el M;
      position = celestial_at el t E;
      radius = radius el.semi_major_axis el.eccentricity (C E);
      node = node_at el t;
    }

unfoldable pub state_of : Elements → ℤ → State
state_of el t = state_with el t (revolution el t) (mean_anomaly el t)

-- a refusal, or the state where there is none
unfoldable pub placement_of : Result Unit Refusal → State → Result State Refusal
placement_of (Err refusal) s = Err refusal
placement_of (Ok tt) s = Ok s

-- position: the elements, then 8
unfoldable pub placement : Elements → ℤ → Result State Refusal
placement el t = placement_of (checked_at el t) (state_of el t)
