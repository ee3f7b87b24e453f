-- What holds of a position that was given. Assumes nothing.
use mathlib.Core.Path.{◌≡◌}
use mathlib.Core.Bool.{true}
use Prim.Native.Nat.{ℕ, ◌+◌, ◌*◌, ◌^◌, ◌≤◌, ◌<◌}
use native.Mathlib.Nat.{mul-le-mul}
use native.Mathlib.Omega.{arith}
use lib.Dec.{leb→le, lit≤}
use lib.IntN.{ℤ, pos, negsuc, nat_abs}
use Rattle.integer.proofs.Bounds.{within_more}
use Rattle.position.specs.Box.{Turnable, CelestialBox}
use Rattle.position.specs.declared.Position.{Position}
use Rattle.time.specs.Range.{in_range}
use Rattle.orbit.specs.declared.State.{State}
use Rattle.elements.specs.declared.Elements.{Elements}
use Rattle.orbit.specs.Ellipse.{Between}
use Rattle.orbit.specs.Placement.{placement}
use Rattle.elements.proofs.Accepted.{accepted_at}
use Rattle.orbit.proofs.Placements.{placed_passed}
use Rattle.std.specs.Prelude.{Ok}

below : (a e : ℕ) (r : ℤ) → a ≤ 100_000_000 → e ≤ 9_000_000 → Between a e r → nat_abs r < 2 ^ 32
below a e (pos n) ha he h =
    let f : 10_000_000 + e ≤ 19_000_000 = omega arith in
    let m : a * (10_000_000 + e) ≤ 100_000_000 * 19_000_000 = mul-le-mul ha f in
    omega (arith, leb→le (n * 10_000_000) (a * (10_000_000 + e)) h.apogee.le)
below a e (negsuc n) ha he h = absurd h.perigee.le

module _ (el : Elements) (t : ℤ) (s : State) (given : placement el t ≡ Ok s) where
  pub time_in_range : in_range t ≡ true
  time_in_range = (accepted_at el t (placed_passed el t given)).is_in_range

  -- no apogee is beyond 190,000 km
  pub radius_small : Between el.semi_major_axis el.eccentricity s.radius → nat_abs s.radius < 2 ^ 32
  radius_small h =
      let a = (accepted_at el t (placed_passed el t given)).elements in
      below _ _ s.radius a.axis_le a.eccentricity_le h

-- the bounds of a celestial position let it be turned
pub turnable : {p : Position} → CelestialBox p → Turnable p
turnable h =
    record { x_within = within_more h.x_within (lit≤ tt); y_within = within_more h.y_within (lit≤ tt); z_within = within_more h.z_within (lit≤ tt) }
