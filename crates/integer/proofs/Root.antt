-- The whole square root is the only number whose square is not above n and whose successor's square is. Assumes nothing.
use mathlib.Core.Path.{◌≡◌}
use mathlib.Core.Bool.{true, false}
use Prim.Native.Nat.{ℕ, zero, suc, ◌+◌, ◌*◌, ◌≤◌, ◌<◌}
use native.Mathlib.Decide.{dec_le}
use native.Mathlib.Nat.{mul-le-mul, lt_of_not-le}
use native.Mathlib.Omega.{arith}
use borrow.Author.Tests.{le-leb, lt-leb}
use lib.Dec.{leb}
use Rattle.integer.specs.Root.{root}
use Rattle.integer.proofs.Ring.{ring}

pub record IsRoot (n r : ℕ) : Type 0 where
  pub low : r * r ≤ n
  pub high : n < suc r * suc r

pub root_is : (n : ℕ) → IsRoot n (root n)
unfolding root
root_is zero = record { low = omega arith; high = omega arith }
root_is (suc n) = either (root n) (root_is n) (dec_le (suc (root n) * suc (root n)) (suc n))
  where
    either : (r : ℕ) → IsRoot n r → Dec (suc r * suc r ≤ suc n)
        → IsRoot (suc n) (elim (leb (suc r * suc r) (suc n)) [ true ↦ suc r | false ↦ r ])
    either r h (yes k) = rw (le-leb (suc r * suc r) (suc n) k) (record { low = k; high = omega (arith, h.high) })
    either r h (no f) =
        rw (lt-leb (suc r * suc r) (suc n) (lt_of_not-le f)) (record { low = omega (arith, h.low); high = lt_of_not-le f })

-- a number whose square is not above n is not above one whose successor's square is
pub square_below : (n r s : ℕ) → n < suc r * suc r → s * s ≤ n → s ≤ r
square_below n r s h k = either (dec_le s r)
  where
    either : Dec (s ≤ r) → s ≤ r
    either (yes l) = l
    either (no f) =
        let l : suc r ≤ s = lt_of_not-le f in
        absurd (omega (arith, mul-le-mul l l))

root_unique : (n r : ℕ) → IsRoot n r → r ≡ root n
root_unique n r h =
    let g = root_is n in
    omega (arith, square_below n r (root n) h.high g.low, square_below n (root n) r g.high h.low)

-- r is the whole root of r·r + m where m is at most 2·r, and nowhere else: the next square is r·r + (2·r + 1)
pub root_of_sum : (r m : ℕ) → m ≤ 2 * r → r ≡ root (r * r + m)
root_of_sum r m h = root_unique (r * r + m) r (record { low = omega arith; high = simp ring (omega arith) })

pub remainder_le : (r m : ℕ) → r ≡ root (r * r + m) → m ≤ 2 * r
remainder_le r m e =
    let h : r * r + m < suc r * suc r = rw (← e) at (root_is (r * r + m)).high in
    omega (arith, simp ring at h)
