-- The number of the revolution, counted from the mean ascending node, and that it never falls: document 01, "From elements to position".
-- Assumes nothing.
use Rattle.std.specs.Prelude.{◌≡◌, ℕ, ◌+◌, ◌/◌, ◌^◌, ℤ, pos, ◌+ℤ◌, ◌-ℤ◌, ◌≤ℤ◌, Ok}
use Rattle.integer.specs.Division.{floor_z}
use Rattle.elements.specs.declared.Elements.{Elements}
use Rattle.elements.specs.Time.{checked_at}
use Rattle.orbit.specs.Turns.{elapsed_of, advance, drift}

-- the mean argument of latitude at the epoch, before wrapping: M0 plus the argument of perigee
abbrev pub latitude_of : Elements → ℕ
latitude_of el = el.mean_anomaly + el.argument_of_perigee

-- what it gains until a time: A, by the mean motion, and B, by the drift of the perigee, neither wrapped
unfoldable pub gain : Elements → ℤ → ℤ
gain el t = advance el t +ℤ drift el.perigee_rate (elapsed_of el t)

-- passages of the mean node where a mean argument of latitude u gains x: (u + x) / 2^32 down, less u / 2^32 down
unfoldable pub node_passages : ℕ → ℤ → ℤ
node_passages u x = floor_z (pos u +ℤ x) (2 ^ 32) -ℤ pos (u / 2 ^ 32)

-- the revolution: that of the epoch + (M0 + argument of perigee + A + B) / 2^32 down, less (M0 + argument of perigee) / 2^32 down
unfoldable pub revolution : Elements → ℤ → ℤ
revolution el t = pos el.epoch_revolution +ℤ node_passages (latitude_of el) (gain el t)

-- the number never falls (theorem `never_falls`): of two times that are accepted with the same elements, the later has no lower one
abbrev pub NeverFalls : Type 0
NeverFalls =
    (el : Elements) (t t' : ℤ) → checked_at el t ≡ Ok tt → checked_at el t' ≡ Ok tt → t ≤ℤ t' → revolution el t ≤ℤ revolution el t'
