-- Bounds of the products and quotients of the series. Assumes nothing.
use Prim.Native.Nat.{ℕ, ◌*◌, ◌/◌, ◌^◌, ◌≤◌}
use native.Mathlib.Nat.{mul-le-mul, mul-le-mul_right, le_trans, div-le_of_le-mul}
use native.Mathlib.Omega.{arith}
use Rattle.trig.specs.Sine.{quarter_sine}

-- what a step takes from 2^30 is at most 2^30
pub quotient_le : (z v d : ℕ) → z ≤ 2_649_351_757 → v ≤ 2 ^ 30 → 6 ≤ d → z * v / 2 ^ 30 / d ≤ 2 ^ 30
quotient_le z v d hz hv hd =
    let w : ℕ = z * v / 2 ^ 30 in
    let small : w ≤ 6 * 2 ^ 30 = omega (arith, mul-le-mul hz hv) in
    div-le_of_le-mul d (le_trans small (mul-le-mul_right (2 ^ 30) hd))

pub quarter_sine_le : (r : ℕ) → quarter_sine r ≤ 2 ^ 30
unfolding quarter_sine
quarter_sine_le r = omega arith
