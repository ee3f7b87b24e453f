-- The sine and the cosine of an angle, in units of 2^-30: document 01, "The sheet sine". Assumes nothing.
use Rattle.std.specs.Prelude.{ℕ, zero, suc, ◌+◌, ◌*◌, ◌-◌, ◌/◌, ◌%◌, ◌^◌, min, ℤ, pos, neg_ℤ}

-- step 1: x, the arc r in radians
unfoldable pub radians : ℕ → ℕ
radians r = r * 1_686_629_713 / 2 ^ 30

-- step 2: z, the square of x
unfoldable pub square : ℕ → ℕ
square x = x * x / 2 ^ 30

-- step 3 for one divisor: what v becomes. The quotient is at most 2^30 (law `quotient_le`), so that nothing is cut at 0.
unfoldable pub horner_step : ℕ → ℕ → ℕ → ℕ
horner_step z v divisor = 2 ^ 30 - z * v / 2 ^ 30 / divisor

-- steps 2 and 3: v starts as 2^30, and takes the seven divisors in turn
unfoldable pub series : ℕ → ℕ
series z =
    let v1 = horner_step z (2 ^ 30) 210 in
    let v2 = horner_step z v1 156 in
    let v3 = horner_step z v2 110 in
    let v4 = horner_step z v3 72 in
    let v5 = horner_step z v4 42 in
    let v6 = horner_step z v5 20 in
    horner_step z v6 6

-- x·v / 2^30, before the cap
unfoldable pub uncapped : ℕ → ℕ
uncapped r = radians r * series (square (radians r)) / 2 ^ 30

-- step 4: s(r), for r from 0 to 2^30
unfoldable pub quarter_sine : ℕ → ℕ
quarter_sine r = min (uncapped r) (2 ^ 30)

-- at quarter q and rest r of a turn: `upper` in the first half of the turn, `lower` in the second, each at r or at 2^30 - r
unfoldable pub in_quarter {ℓ} : {A : Type ℓ} → ℕ → ℕ → (ℕ → A) → (ℕ → A) → A
in_quarter zero r upper lower = upper r
in_quarter (suc zero) r upper lower = upper (2 ^ 30 - r)
in_quarter (suc (suc zero)) r upper lower = lower r
in_quarter (suc (suc (suc n))) r upper lower = lower (2 ^ 30 - r)

-- what holds of an angle by symmetry from the first quarter; a whole turn is as 0
abbrev pub by_symmetry {ℓ} : {A : Type ℓ} → ℕ → (ℕ → A) → (ℕ → A) → A
by_symmetry a upper lower = in_quarter (a / 2 ^ 30 % 4) (a % 2 ^ 30) upper lower

-- S: the sine, with the sign of its half of the turn
unfoldable pub S : ℕ → ℤ
S a = by_symmetry a (λ r. pos (quarter_sine r)) (λ r. neg_ℤ (pos (quarter_sine r)))

-- C: the cosine, the sine a quarter turn on
unfoldable pub C : ℕ → ℤ
C a = S ((a + 2 ^ 30) % 2 ^ 32)
