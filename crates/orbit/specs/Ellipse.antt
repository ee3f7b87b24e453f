-- The place on the ellipse and the radius: document 01, "From elements to position". Quotients are cut toward zero. Assumes nothing.
use Rattle.std.specs.Prelude.{ℕ, ◌+◌, ◌*◌, ◌-◌, ◌/◌, ◌^◌, ℤ, pos, ◌-ℤ◌, ◌*ℤ◌, ◌≤ℤ◌}
use Rattle.std.specs.Int.Signed.{quot_z}
use Rattle.integer.specs.Root.{root}

-- e30: the eccentricity in units of 2^-30
unfoldable pub e30 : ℕ → ℕ
e30 e = e * 2 ^ 30 / 10 ^ 7

-- b: the ratio of the minor to the major axis, in units of 2^-30
unfoldable pub minor_axis : ℕ → ℕ
minor_axis e = root (2 ^ 60 - e30 e * e30 e)

-- X = a·(C(E) − e30) / 2^30
unfoldable pub in_plane_x : ℕ → ℕ → ℤ → ℤ
in_plane_x a e cosine = quot_z (pos a *ℤ (cosine -ℤ pos (e30 e))) (pos (2 ^ 30))

-- Y = a·(b·S(E) / 2^30) / 2^30
unfoldable pub in_plane_y : ℕ → ℕ → ℤ → ℤ
in_plane_y a b sine = quot_z (pos a *ℤ quot_z (pos b *ℤ sine) (pos (2 ^ 30))) (pos (2 ^ 30))

-- radius = a·(2^30 − e30·C(E)/2^30) / 2^30
unfoldable pub radius : ℕ → ℕ → ℤ → ℤ
radius a e cosine = quot_z (pos a *ℤ (pos (2 ^ 30) -ℤ quot_z (pos (e30 e) *ℤ cosine) (pos (2 ^ 30)))) (pos (2 ^ 30))

-- demand 3 of a radius r
pub record Between (a e : ℕ) (r : ℤ) : Type 0 where
  -- not below the perigee distance a·(10^7 − e)/10^7, cut down to whole metres
  pub perigee : pos (a * (10 ^ 7 - e) / 10 ^ 7) ≤ℤ r
  -- nor above the apogee distance a·(10^7 + e)/10^7, uncut: both sides times 10^7
  pub apogee : (r *ℤ pos (10 ^ 7)) ≤ℤ pos (a * (10 ^ 7 + e))
