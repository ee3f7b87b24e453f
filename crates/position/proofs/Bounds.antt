-- Bounds of turned positions: a turn's component is at most the sum of the two that are turned. Assumes nothing.
use Prim.Native.Nat.{ℕ, ◌+◌, ◌*◌, ◌/◌, ◌^◌, ◌≤◌}
use native.Mathlib.Omega.{arith}
use lib.IntN.{ℤ, ◌+ℤ◌, ◌-ℤ◌, ◌*ℤ◌}
use Rattle.integer.specs.Bound.{Within}
use Rattle.integer.proofs.Bounds.{within_add, within_sub, within_mul, within_quot, within_more}
use Rattle.trig.proofs.SinesOf.{sines_of}
use Rattle.trig.specs.declared.Sines.{Sines}
use Rattle.trig.proofs.Quarters.{S-within, C-within}
use Rattle.position.specs.Box.{Box, PlaneBox, CelestialBox}
use Rattle.position.specs.Turn.{scaled_difference, scaled_sum, turned_first, turned_second, turned_xy, turned_yz, celestial_of}
use Rattle.position.specs.declared.Position.{Position}

scaled_le : (a b : ℕ) → (a * 2 ^ 30 + b * 2 ^ 30) / 2 ^ 30 ≤ a + b
scaled_le a b = omega arith

module _ {a b : ℕ} {x y : ℤ} (angle : ℕ) (h : Within a x) (k : Within b y) where
  pub turned_first_within : Within (a + b) (turned_first x y angle)
  unfolding turned_first
  turned_first_within =
      within_more (within_quot (2 ^ 30) (within_sub (within_mul h (C-within angle)) (within_mul k (S-within angle)))) (scaled_le a b)

  pub turned_second_within : Within (a + b) (turned_second x y angle)
  unfolding turned_second
  turned_second_within =
      within_more (within_quot (2 ^ 30) (within_add (within_mul h (S-within angle)) (within_mul k (C-within angle)))) (scaled_le a b)

-- the numbers on the way to a turned pair
pub record TurnSizes (x y cosine sine : ℤ) : Type 0 where
  pub x_cosine : Within (2 ^ 61) (x *ℤ cosine)
  pub y_sine : Within (2 ^ 61) (y *ℤ sine)
  pub x_sine : Within (2 ^ 61) (x *ℤ sine)
  pub y_cosine : Within (2 ^ 61) (y *ℤ cosine)
  pub difference : Within (2 ^ 62) (x *ℤ cosine -ℤ y *ℤ sine)
  pub sum : Within (2 ^ 62) (x *ℤ sine +ℤ y *ℤ cosine)
  pub first : Within (2 ^ 32) (scaled_difference x cosine y sine)
  pub second : Within (2 ^ 32) (scaled_sum x sine y cosine)

pub turn_sizes : {x y : ℤ} (angle : Sines) → Within (2 ^ 31) x × Within (2 ^ 31) y
    → TurnSizes x y angle.cosine angle.sine
turn_sizes angle (h, k) =
    let a = sines_of angle in
    let d = within_sub (within_mul h a.cosine_within) (within_mul k a.sine_within) in
    let s = within_add (within_mul h a.sine_within) (within_mul k a.cosine_within) in
    record {
      x_cosine = within_mul h a.cosine_within;
      y_sine = within_mul k a.sine_within;
      x_sine = within_mul h a.sine_within;
      y_cosine = within_mul k a.cosine_within;
      difference = d;
      sum = s;
      first = within_quot (2 ^ 30) d;
      second = within_quot (2 ^ 30) s;
    }

pub box_more : {ax ay az bx by bz : ℕ} {p : Position} → Box ax ay az p → ax ≤ bx → ay ≤ by → az ≤ bz → Box bx by bz p
box_more h i j k =
    record {
      x_within = within_more h.x_within i;
      y_within = within_more h.y_within j;
      z_within = within_more h.z_within k;
    }

module _ {bx by bz : ℕ} {p : Position} (angle : ℕ) (h : Box bx by bz p) where
  pub box_turned_xy : Box (bx + by) (bx + by) bz (turned_xy p angle)
  box_turned_xy =
      record {
        x_within = turned_first_within angle h.x_within h.y_within;
        y_within = turned_second_within angle h.x_within h.y_within;
        z_within = h.z_within;
      }

  pub box_turned_yz : Box bx (by + bz) (by + bz) (turned_yz p angle)
  box_turned_yz =
      record {
        x_within = h.x_within;
        y_within = turned_first_within angle h.y_within h.z_within;
        z_within = turned_second_within angle h.y_within h.z_within;
      }

pub celestial_box : {p : Position} (argument_of_perigee inclination node : ℕ) → PlaneBox p
    → CelestialBox (celestial_of p argument_of_perigee inclination node)
unfolding celestial_of
celestial_box argument_of_perigee inclination node h =
    box_turned_xy node (box_turned_yz inclination (box_turned_xy argument_of_perigee h))
