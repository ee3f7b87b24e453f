-- A signed number's bits, and what the machine reads back of them. Assumes nothing.
use mathlib.Core.Path.{◌≡◌, refl, sym, ap, ◌∙◌, subst}
use mathlib.Core.Bool.{Bool, true, false}
use Prim.Native.Nat.{ℕ, ◌*◌, ◌%◌, ◌^◌, ◌<◌}
use native.Mathlib.Omega.{arith}
use borrow.Author.Tests.{ltb-true, ltb-false, lt-ltb, le-ltb}
use lib.Dec.{T, ltb}
use lib.IntN.{ℤ, pos, negsuc, ◌-ℤ◌}
use lib.Signed.{mag, shr_z}
use mir.Syntax.{Width, w32, w64}
use mir.Val.{SFits, hbits, to_z, of_z}
use mir.Facts.{to_z-of_z, to_z_pos}
use Rattle.integer.specs.Bound.{Within}
use Rattle.integer.proofs.Bounds.{sfits_within}
use Rattle.integer.proofs.Parts.{signed, parts_sub}

-- an i64 is read back as it is: one that a call gave, and one within a bound
pub read_back : (z : ℤ) → mag z < 2 ^ 63 → to_z w64 (of_z w64 z) ≡ z
read_back z h = to_z-of_z {w = w64} (record { sfits = h })

pub read_within : {a : ℕ} {z : ℤ} → Within a z → T (ltb a (2 ^ 63)) → to_z w64 (of_z w64 z) ≡ z
read_within h t = to_z-of_z {w = w64} (sfits_within h t)

down_pos : (n : ℕ) → negsuc 0 -ℤ pos n ≡ negsuc n
down_pos n = omega (signed, parts_sub (negsuc 0) (pos n))

-- -1 - m
pub negsuc_fits : (w : Width) (m : ℕ) → m < 2 ^ hbits w → SFits w (negsuc 0 -ℤ to_z w m)
negsuc_fits w m h =
    subst (SFits w) (sym (ap (λ (y : ℤ). negsuc 0 -ℤ y) (to_z_pos w h) ∙ down_pos m)) (record { sfits = h })

pub negsuc_read : (w : Width) (m : ℕ) → m < 2 ^ hbits w → to_z w (of_z w (negsuc 0 -ℤ to_z w m)) ≡ negsuc m
negsuc_read w m h = to_z-of_z (negsuc_fits w m h) ∙ ap (λ (y : ℤ). negsuc 0 -ℤ y) (to_z_pos w h) ∙ down_pos m

-- in 32 bits: a number's bits are the lower half of its 64, and bits read in the upper half of 64 and shifted down are those read in 32
pub lower_half : (z : ℤ) → SFits w32 z → of_z w64 z % 2 ^ 32 ≡ of_z w32 z
lower_half (pos n) f = omega (arith, f.sfits)
lower_half (negsuc n) f = omega (arith, f.sfits)

pub upper_half : (b : ℕ) → b < 2 ^ 32 → shr_z (to_z w64 (b * 2 ^ 32)) (2 ^ 32) ≡ to_z w32 b
upper_half b h = go (ltb b (2 ^ 31)) refl
  where
    go : (t : Bool) → ltb b (2 ^ 31) ≡ t → shr_z (to_z w64 (b * 2 ^ 32)) (2 ^ 32) ≡ to_z w32 b
    go true e = rw (e, lt-ltb (b * 2 ^ 32) (2 ^ 63) (omega (arith, ltb-true b (2 ^ 31) e))) (ap pos (omega arith))
    go false e = rw (e, le-ltb (b * 2 ^ 32) (2 ^ 63) (omega (arith, ltb-false b (2 ^ 31) e))) (ap negsuc (omega arith))
