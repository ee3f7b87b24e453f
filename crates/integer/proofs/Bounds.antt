-- Bounds of signed numbers: each law gives the bound of a result from those of the operands, and a number within a bound below the
-- width's half fits. Assumes nothing.
use Prim.Native.Nat.{ℕ, zero, suc, ◌+◌, ◌*◌, ◌/◌, ◌^◌, ◌≤◌, zero-le, suc-le-suc}
use native.Mathlib.Nat.{le_trans, lt_of_le_of_lt, mul-le-mul, div-zero, div-mul-le_self, le-div_iff_mul-le}
use native.Mathlib.Omega.{arith}
use lib.Dec.{T, ltb, ltb→lt}
use lib.IntN.{ℤ, pos, neg_ℤ, ◌+ℤ◌, ◌-ℤ◌, ◌*ℤ◌}
use lib.Signed.{quot_z}
use mir.Syntax.{Width}
use mir.Val.{SFits, hbits}
use Rattle.integer.specs.Bound.{Within}
use Rattle.integer.proofs.Sizes.{nat_abs_neg, nat_abs_mul, nat_abs_add, nat_abs_quot, mag_nat_abs}

pub div_mono : {a b : ℕ} (d : ℕ) → a ≤ b → a / d ≤ b / d
div_mono {a} {b} zero h = rw (div-zero a, div-zero b) zero-le
div_mono {a} {b} (suc d) h =
    (le-div_iff_mul-le (suc-le-suc zero-le)).1 (le_trans (div-mul-le_self a (suc d)) h)

pub within_more : {a b : ℕ} {z : ℤ} → Within a z → a ≤ b → Within b z
within_more h k = record { within = le_trans h.within k }

pub within_pos : {a n : ℕ} → n ≤ a → Within a (pos n)
within_pos h = record { within = h }

pub within_neg : {a : ℕ} {z : ℤ} → Within a z → Within a (neg_ℤ z)
within_neg {a} {z} h = record { within = omega (arith, nat_abs_neg z) }

pub within_add : {a b : ℕ} {x y : ℤ} → Within a x → Within b y → Within (a + b) (x +ℤ y)
within_add {a} {b} {x} {y} h k = record { within = omega (arith, nat_abs_add x y) }

pub within_sub : {a b : ℕ} {x y : ℤ} → Within a x → Within b y → Within (a + b) (x -ℤ y)
within_sub h k = within_add h (within_neg k)

pub within_mul : {a b : ℕ} {x y : ℤ} → Within a x → Within b y → Within (a * b) (x *ℤ y)
within_mul h k = record { within = rw nat_abs_mul (mul-le-mul h.within k.within) }

pub within_quot : {a : ℕ} {x : ℤ} (d : ℕ) → Within a x → Within (a / d) (quot_z x (pos d))
within_quot d h = record { within = rw nat_abs_quot (div_mono d h.within) }

pub sfits_within : {w : Width} {a : ℕ} {z : ℤ} → Within a z → T (ltb a (2 ^ hbits w)) → SFits w z
sfits_within {w} {a} {z} h t =
    record { sfits = lt_of_le_of_lt (le_trans (mag_nat_abs z) h.within) (ltb→lt a (2 ^ hbits w) t) }
