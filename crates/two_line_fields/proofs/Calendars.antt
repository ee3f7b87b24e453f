-- The days of each year follow those of the year before. Assumes nothing.
use mathlib.Core.Path.{◌≡◌, refl}
use Prim.Native.Nat.{ℕ, zero, suc, ◌+◌, ◌*◌, ◌-◌, ◌/◌, ◌%◌, ◌≤◌, ◌<◌}
use native.Mathlib.Omega.{arith}
use Rattle.two_line_fields.specs.Calendar.{days_in, days_before}

-- the year that is r years behind four times q years from 1957
abbrev behind : ℕ → ℕ → ℕ
behind q r = 1957 + (4 * q + r)

by_remainder : (q r : ℕ) → r < 4 → days_before (behind q r + 1) ≡ days_before (behind q r) + days_in (behind q r)
by_remainder q zero h = let m : behind q 0 % 4 ≡ 1 = omega arith in rw m (omega arith)
by_remainder q (suc zero) h = let m : behind q 1 % 4 ≡ 2 = omega arith in rw m (omega arith)
by_remainder q (suc (suc zero)) h = let m : behind q 2 % 4 ≡ 3 = omega arith in rw m (omega arith)
by_remainder q (suc (suc (suc zero))) h = let m : behind q 3 % 4 ≡ 0 = omega arith in rw m (omega arith)
by_remainder q (suc (suc (suc (suc r)))) h = absurd (omega arith)

pub one_year_on : (year : ℕ) → 1957 ≤ year → days_before (year + 1) ≡ days_before year + days_in year
one_year_on year h =
    let q = (year - 1957) / 4 in
    let r = (year - 1957) % 4 in
    let years : behind q r ≡ year = omega arith in
    rw years at (by_remainder q r (omega arith))

-- 1990 Jan 0.0, from which epochs count
pub to_1990 : days_before 1990 ≡ 12_053
to_1990 = refl
