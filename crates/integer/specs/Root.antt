-- The whole square root, down. Assumes nothing.
use Rattle.std.specs.Prelude.{ℕ, zero, suc, ◌*◌, true, false, leb}

-- the greatest r with r·r ≤ n: one more than that of n - 1 where the square of that is not above n
unfoldable pub root : ℕ → ℕ
root zero = 0
root (suc n) = elim (leb (suc (root n) * suc (root n)) (suc n)) [ true ↦ suc (root n) | false ↦ root n ]
