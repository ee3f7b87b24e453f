-- What a test of signed numbers tells, and a chain of tests. Assumes nothing.
use mathlib.Core.Path.{◌≡◌, refl, sym, subst}
use mathlib.Core.Bool.{Bool, true, false, ◌||◌, ◌&&◌}
use Prim.Native.Nat.{ℕ, suc}
use native.Mathlib.Omega.{arith}
use lib.Dec.{T}
use lib.IntN.{ℤ, pos, negsuc}
use lib.Signed.{lt_z}
use Rattle.integer.specs.Bound.{Within}
use Rattle.integer.proofs.Parts.{test_ge}

pub or_yes : (a b : Bool) → a ≡ true → a ≡ (a || b)
or_yes true b e = refl
or_yes false b e = absurd (subst T (sym e) tt)

pub or_no : (a b : Bool) → a ≡ false → b ≡ (a || b)
or_no true b e = absurd (subst T e tt)
or_no false b e = refl

pub or_false : (a b : Bool) → (a || b) ≡ false → (a ≡ false) × (b ≡ false)
or_false true b e = absurd (subst T e tt)
or_false false b e = (refl, e)

pub and_true : (a b : Bool) → (a && b) ≡ true → (a ≡ true) × (b ≡ true)
and_true true b e = (refl, e)
and_true false b e = absurd (subst T (sym e) tt)

pub and_yes : (a b : Bool) → a ≡ true → b ≡ (a && b)
and_yes true b e = refl
and_yes false b e = absurd (subst T (sym e) tt)

pub and_no : (a b : Bool) → a ≡ false → a ≡ (a && b)
and_no true b e = absurd (subst T e tt)
and_no false b e = refl

-- a number that is neither below -b nor above b is within b
pub inside : (b : ℕ) (z : ℤ) → lt_z z (negsuc b) ≡ false → lt_z (pos (suc b)) z ≡ false → Within (suc b) z
inside b (pos n) h k = record { within = omega (arith, test_ge (pos (suc b)) (pos n) k) }
inside b (negsuc n) h k = record { within = omega (arith, test_ge (negsuc n) (negsuc b) h) }
