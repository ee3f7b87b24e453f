-- The Sun's elevation above the plane of the orbit: document 01, "Sun and shade". Assumes nothing.
use Rattle.std.specs.Prelude.{cond, ℕ, ◌^◌, ℤ, pos, neg_ℤ}
use Rattle.std.specs.Int.Signed.{lt_z}
use Rattle.trig.specs.Sine.{S, C}
use Rattle.sun.specs.Sun.{scaled}
use Rattle.sun.specs.declared.Direction.{Direction}
use Rattle.eclipse.specs.Dot.{dot_of}

-- orbit normal (node as drifted) = S(i)·S(node)/2^30, −(S(i)·C(node)/2^30), C(i)
unfoldable pub normal_of : ℕ → ℕ → Direction
normal_of i node = record { x = scaled (S i) (S node); y = neg_ℤ (scaled (S i) (C node)); z = C i }

-- held within ±2^30
unfoldable pub held_of : ℤ → ℤ
held_of z = cond (lt_z z (neg_ℤ (pos (2 ^ 30)))) (neg_ℤ (pos (2 ^ 30))) (cond (lt_z (pos (2 ^ 30)) z) (pos (2 ^ 30)) z)

-- elevation sine = (normal · Sun)/2^30, held within ±2^30
unfoldable pub elevation_of : ℕ → ℕ → Direction → ℤ
elevation_of i node sun = let n = normal_of i node in held_of (dot_of n.x n.y n.z sun)
