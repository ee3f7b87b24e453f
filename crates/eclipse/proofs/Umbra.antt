-- The umbra lies within the penumbra. Assumes nothing.
use mathlib.Core.Path.{◌≡◌, refl}
use mathlib.Core.Bool.{true}
use Prim.Native.Nat.{ℕ, suc, ◌+◌, ◌*◌, ◌≤◌}
use native.Mathlib.Nat.{mul-le-mul}
use native.Mathlib.Omega.{arith}
use borrow.Author.Tests.{ltb-true, lt-ltb}
use lib.Dec.{ltb}
use lib.IntN.{ℤ, pos, negsuc, neg_ℤ, nat_abs, ◌-ℤ◌, ◌*ℤ◌}
use lib.Signed.{lt_z}
use Rattle.integer.proofs.Bounds.{div_mono}
use Rattle.integer.proofs.Sizes.{nat_abs_neg, nat_abs_add}
use Rattle.eclipse.specs.Shade.{spread, umbra_radius, penumbra_radius, below_square}
use Rattle.eclipse.specs.ShadeLaws.{UmbraWithinPenumbra}

-- a square grows with the size of its root
squares : (m a n : ℕ) → a ≤ n → ltb m (a * a) ≡ true → ltb m (n * n) ≡ true
squares m a n h e = lt-ltb m (n * n) (omega (arith, ltb-true m (a * a) e, mul-le-mul h h))

square_tells : (s r : ℤ) (n : ℕ) → nat_abs r ≤ n → lt_z s (r *ℤ r) ≡ true → lt_z s (pos (n * n)) ≡ true
square_tells (pos m) (pos a) n h e = squares m a n h e
square_tells (pos m) (negsuc a) n h e = squares m (suc a) n h e
square_tells (negsuc m) r n h e = refl

radius_below : (u v : ℕ) → u ≤ v → nat_abs (pos 6_378_000 -ℤ pos u) ≤ 6_378_000 + v
radius_below u v h = omega (arith, nat_abs_add (pos 6_378_000) (neg_ℤ (pos u)), nat_abs_neg (pos u), h)

pub umbra_within_penumbra : UmbraWithinPenumbra
unfolding below_square umbra_radius penumbra_radius spread
umbra_within_penumbra d s e =
    let h : d * 689_622_000 ≤ d * 702_378_000 = omega arith in
    square_tells s (umbra_radius (pos d)) _ (radius_below _ _ (div_mono 149_600_000_000 h)) e
