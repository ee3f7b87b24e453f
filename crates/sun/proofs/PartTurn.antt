-- The part turn by two divisions. Assumes nothing.
use Rattle.std.proofs.Common.{◌≡◌, ℕ, ◌+◌, ◌*◌, ◌/◌, ◌%◌, ◌^◌, ◌<◌, sym, ap, ◌∙◌, div-add-mod', arith}
use native.Mathlib.Nat.{mul-add-div_right}
use Rattle.integer.proofs.Ring.{ring}

-- m·2^32 / d by 2^16 twice: the remainder of the first division goes into the second
pub split_quotient : (m d : ℕ) → 0 < d
    → m * 2 ^ 16 / d * 2 ^ 16 + m * 2 ^ 16 % d * 2 ^ 16 / d ≡ m * 2 ^ 32 / d
split_quotient m d h =
    let a = m * 2 ^ 16 in
    let e : a / d * 2 ^ 16 * d + a % d * 2 ^ 16 ≡ m * 2 ^ 32 = simp ring (omega (arith, div-add-mod' a d)) in
    sym (mul-add-div_right h (a / d * 2 ^ 16) (a % d * 2 ^ 16)) ∙ ap (λ (n : ℕ). n / d) e
