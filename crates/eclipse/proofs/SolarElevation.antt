-- The orbit normal's bounds, and the elevation sine's. Assumes nothing.
use mathlib.Core.Path.{◌≡◌, refl, subst⁻¹}
use mathlib.Core.Bool.{Bool, true, false, cond}
use Prim.Native.Nat.{ℕ, ◌^◌}
use lib.Dec.{ltb, lit≤}
use lib.Signed.{lt_z}
use lib.IntN.{ℤ, pos, negsuc, neg_ℤ}
use Rattle.std.specs.Int.{int_max, int_min}
use Rattle.integer.specs.Bound.{Within}
use Rattle.integer.proofs.Tests.{inside}
use Rattle.integer.proofs.Bounds.{within_neg}
use Rattle.trig.proofs.Quarters.{S-within, C-within}
use Rattle.sun.specs.Contract.{WithinOne}
use Rattle.sun.specs.declared.Direction.{Direction}
use Rattle.sun.proofs.Bounds.{within_scaled}
use Rattle.eclipse.specs.Dot.{dot_of}
use Rattle.eclipse.specs.Elevation.{normal_of, held_of, elevation_of}
use Rattle.eclipse.specs.Contract.{NormalAt, HeldAt, ElevationAt}

normal_within : (i node : ℕ) → WithinOne (normal_of i node)
unfolding normal_of
normal_within i node =
    record {
      x_within = within_scaled (S-within i) (S-within node);
      y_within = search (within_neg, within_scaled, S-within, C-within);
      z_within = C-within i;
    }

pub normal_at : {d : Direction} (i node : ℕ) → d ≡ normal_of i node → NormalAt i node d
normal_at i node e = record { is = e; small = subst⁻¹ WithinOne e (normal_within i node) }

-- a number between the two ends that a number is held at
held_between : {z : ℤ} (below above : Bool) → (below ≡ false → above ≡ false → Within (2 ^ 30) z)
    → Within (2 ^ 30) (cond below (neg_ℤ (pos (2 ^ 30))) (cond above (pos (2 ^ 30)) z))
held_between true above f = record { within = lit≤ tt }
held_between false true f = record { within = lit≤ tt }
held_between false false f = f refl refl

held_within : (z : ℤ) → Within (2 ^ 30) (held_of z)
unfolding held_of
held_within z = held_between (lt_z z (negsuc 1_073_741_823)) (lt_z (pos 1_073_741_824) z) (inside 1_073_741_823 z)

pub held_at : {r : ℤ} (z : ℤ) → r ≡ held_of z → HeldAt z r
held_at z e = record { is = e; small = subst⁻¹ (Within (2 ^ 30)) e (held_within z) }

-- between the ends the lower one makes no difference
above_low : (n : ℕ) (b : Bool) → int_max (negsuc 1_073_741_823) (cond b (pos 1_073_741_824) (pos n)) ≡ cond b (pos 1_073_741_824) (pos n)
above_low n true = refl
above_low n false = refl

pub clamp_is : (z : ℤ) → int_max (negsuc 1_073_741_823) (int_min z (pos 1_073_741_824)) ≡ held_of z
unfolding held_of
clamp_is (pos n) = above_low n (ltb 1_073_741_824 n)
clamp_is (negsuc n) = refl

pub elevation_within : (i node : ℕ) (sun : Direction) → Within (2 ^ 30) (elevation_of i node sun)
unfolding elevation_of
elevation_within i node sun = held_within _

pub elevation_at : {i node : ℕ} {sun n : Direction} {d r : ℤ} → NormalAt i node n → d ≡ dot_of n.x n.y n.z sun → HeldAt d r
    → ElevationAt i node sun r
unfolding elevation_of
elevation_at a e h = record { is = rw (← a.is, ← e) h.is; small = h.small }
