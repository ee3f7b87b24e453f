-- Bounds of the Sun's angles and of its direction. Assumes nothing.
use Rattle.std.proofs.Common.{◌≡◌, ℕ, ◌^◌, ◌<◌, ℤ, pos, arith, ◌∙◌, lit≤, w64, to_z, of_z, to_z-of_z}
use mathlib.Core.Path.{subst⁻¹}
use mir.Facts.{to_z_pos}
use Rattle.integer.specs.Bound.{Within}
use Rattle.integer.proofs.Bounds.{within_add, within_mul, within_quot, within_more, within_pos, sfits_within}
use Rattle.trig.specs.Angle.{angle_of}
use Rattle.trig.proofs.Angles.{angle_below}
use Rattle.trig.proofs.Quarters.{S-within, C-within}
use Rattle.sun.specs.Sun.{scaled, centre_of, direction_of}
use Rattle.sun.specs.Contract.{CentreAt, WithinOne, DirectionAt}
use Rattle.sun.specs.declared.Direction.{Direction}

-- an angle as a signed number
module _ (a : ℕ) (h : a < 2 ^ 32) where
  pub angle_within : Within (2 ^ 32) (pos a)
  angle_within = within_pos (omega arith)

  pub read_angle : to_z w64 a ≡ pos a
  read_angle = to_z_pos w64 (omega arith)

-- the product of two sines is within ±2^30
pub within_scaled : {a s : ℤ} → Within (2 ^ 30) a → Within (2 ^ 30) s → Within (2 ^ 30) (scaled a s)
within_scaled h k = within_more (within_quot (2 ^ 30) (within_mul h k)) (lit≤ tt)

-- the equation of the centre is below two turns
pub centre_within : (ma : ℕ) → Within (2 ^ 33) (centre_of ma)
unfolding centre_of
centre_within ma =
    within_add
    (within_quot (2 ^ 30) (within_mul (angle_within _ (angle_below 19_151)) (S-within _)))
    (within_quot (2 ^ 30) (within_mul (angle_within _ (angle_below 200)) (S-within _)))

pub centre_at : {r : ℤ} (ma : ℕ) → r ≡ centre_of ma → CentreAt ma r
centre_at ma e = record { is = e; small = subst⁻¹ (Within (2 ^ 33)) e (centre_within ma) }

-- the same of a sum, as it is read back
pub centre_read : {z : ℤ} (ma : ℕ) → z ≡ centre_of ma → CentreAt ma (to_z w64 (of_z w64 z))
centre_read ma e = centre_at ma (to_z-of_z {w = w64} (rw e (sfits_within (centre_within ma) tt)) ∙ e)

pub direction_within : (tl : ℕ) → WithinOne (direction_of tl)
unfolding direction_of
direction_within tl =
    record {
      x_within = C-within tl;
      y_within = within_scaled (S-within tl) (C-within (angle_of 234_406));
      z_within = within_scaled (S-within tl) (S-within (angle_of 234_406));
    }

pub direction_at : {d : Direction} (tl : ℕ) → d ≡ direction_of tl → DirectionAt tl d
direction_at tl e = record { is = e; small = subst⁻¹ WithinOne e (direction_within tl) }
