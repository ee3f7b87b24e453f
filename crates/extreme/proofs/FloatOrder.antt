-- IEEE 754's order of finite numbers: `lt` is asymmetric, and where x is not below y nor y below z, x is not below z. So it is a strict
-- weak order. Two numbers of which neither is below the other are equal by `eq`, and in a format they are one number, or both zeros.
-- Assumes nothing.
use mathlib.Core.Path.{◌≡◌, sym, ap, ◌∙◌}
use mathlib.Core.Bool.{Bool, true, false, not, ◌&&◌}
use mathlib.Core.Logic.{◌⊎◌, inl, inr}
use Prim.Native.Nat.{ℕ, ◌+◌, ◌*◌, ◌/◌, ◌^◌, ◌≤◌, ◌<◌}
use native.Mathlib.Nat.{le_antisymm, le_of_eq, mul_right_comm, mul-le-mul_right, le_of_mul-le-mul_right, mul-pos, eq-zero-or-pos}
use native.Mathlib.Omega.{arith}
use lib.Dec.{T, ltb, eqb, not_T, ltb→lt, nltb→le, eqb→eq}
use lib.IntN.{ℤ}
use lib.Ieee.{Float, nan, inf, fin, Format, up, down, low, lt, eq, fits, to_bits, of_bits}
use lib.Ieee.Bits.{of_bits-to_bits}
use lib.Ieee.Fits.{up_pos, down_pos, eq→eqb, and_i, and_l, and_r}
use lib.Ieee.Nearest.{div_mono}
use lib.Ieee.Positive.{den, den_pos}
use lib.Ieee.Scale.{finite}
use Rattle.integer.proofs.Ring.{ring}
use Rattle.extreme.specs.declared.Kind.{Kind}
use Rattle.extreme.specs.declared.Kind.TheVariants.{Least, Greatest}
use Rattle.extreme.specs.Extremes.{ahead, is_zero}

-- ---- a finite number is (rise - fall) / den
abbrev rise : Float → ℕ
rise nan = 0
rise (inf s) = 0
rise (fin true m e) = 0
rise (fin false m e) = m * up e

abbrev fall : Float → ℕ
fall nan = 0
fall (inf s) = 0
fall (fin true m e) = m * up e
fall (fin false m e) = 0

-- x ≤ y
record AtMost (x y : Float) : Type 0 where
  at_most : rise x * den y + fall y * den x ≤ rise y * den x + fall x * den y

at_most_of : (x y : Float) → T (finite x) → T (finite y) → T (not (lt y x)) → AtMost x y
unfolding lt
at_most_of nan y p q h = absurd p
at_most_of (inf s) y p q h = absurd p
at_most_of (fin s m e) nan p q h = absurd q
at_most_of (fin s m e) (inf t) p q h = absurd q
at_most_of (fin false m e) (fin false n d) p q h = record { at_most = omega (arith, nltb→le) }
at_most_of (fin false m e) (fin true n d) p q h = record { at_most = omega (arith, nltb→le) }
at_most_of (fin true m e) (fin false n d) p q h = record { at_most = omega arith }
at_most_of (fin true m e) (fin true n d) p q h = record { at_most = omega (arith, nltb→le) }

no_less : (a b : ℕ) → b ≤ a → T (not (ltb a b))
no_less a b h = not_T (ltb a b) (λ t. omega (arith, ltb→lt a b t))

at_most_to : (x y : Float) → T (finite x) → T (finite y) → AtMost x y → T (not (lt y x))
unfolding lt
at_most_to nan y p q h = absurd p
at_most_to (inf s) y p q h = absurd p
at_most_to (fin s m e) nan p q h = absurd q
at_most_to (fin s m e) (inf t) p q h = absurd q
at_most_to (fin false m e) (fin false n d) p q h = no_less (n * up d * down e) (m * up e * down d) (omega (arith, h.at_most))
at_most_to (fin false m e) (fin true n d) p q h = no_less 0 (n * up d * down e + m * up e * down d) (omega (arith, h.at_most))
at_most_to (fin true m e) (fin false n d) p q h = tt
at_most_to (fin true m e) (fin true n d) p q h = no_less (m * up e * down d) (n * up d * down e) (omega (arith, h.at_most))

-- (a - b) / p ≤ (c - d) / q ≤ (i - j) / r
through : (a b p c d q i j r : ℕ) → 0 < q → a * q + d * p ≤ c * p + b * q → c * r + j * q ≤ i * q + d * r → a * r + j * p ≤ i * p + b * r
through a b p c d q i j r Q h k =
    le_of_mul-le-mul_right (simp ring (omega (arith, simp ring at (mul-le-mul_right r h), simp ring at (mul-le-mul_right p k)))) Q

at_most_trans : {x y z : Float} → AtMost x y → AtMost y z → AtMost x z
at_most_trans {x} {y} {z} h k =
    record {
      at_most = through (rise x) (fall x) (den x) (rise y) (fall y) (den y) (rise z) (fall z) (den z) (den_pos y) h.at_most k.at_most;
    }

-- numbers that are not below one another in turn
not_lt_trans : (x y z : Float) → T (finite x) → T (finite y) → T (finite z) → T (not (lt x y)) → T (not (lt y z)) → T (not (lt x z))
not_lt_trans x y z p q r h k = at_most_to z x r p (at_most_trans (at_most_of z y r q k) (at_most_of y x q p h))

-- ---- the order is asymmetric, and its incomparable numbers are equal
lt_asym : (x y : Float) → T (finite x) → T (finite y) → T (lt x y) → T (not (lt y x))
unfolding lt
lt_asym nan y p q h = absurd p
lt_asym (inf s) y p q h = absurd p
lt_asym (fin s m e) nan p q h = absurd q
lt_asym (fin s m e) (inf t) p q h = absurd q
lt_asym (fin false m e) (fin false n d) p q h = no_less (n * up d * down e) (m * up e * down d) (omega (arith, ltb→lt))
lt_asym (fin false m e) (fin true n d) p q h = absurd h
lt_asym (fin true m e) (fin false n d) p q h = tt
lt_asym (fin true m e) (fin true n d) p q h = no_less (m * up e * down d) (n * up d * down e) (omega (arith, ltb→lt))

-- equal numbers of one sign, and of two
alike : (a b : ℕ) → a ≡ b → T (eqb a b && true)
alike a b h = and_i (eqb a b) true (eq→eqb h) tt

unlike : (a b : ℕ) → a + b ≤ 0 → T (eqb a b && eqb a 0)
unlike a b h =
    let p : a ≡ b = omega arith in
    let q : a ≡ 0 = omega arith in
    and_i (eqb a b) (eqb a 0) (eq→eqb p) (eq→eqb q)

lt_equal : (x y : Float) → T (finite x) → T (finite y) → T (not (lt x y)) → T (not (lt y x)) → T (eq x y)
unfolding lt eq
lt_equal nan y p q h k = absurd p
lt_equal (inf s) y p q h k = absurd p
lt_equal (fin s m e) nan p q h k = absurd q
lt_equal (fin s m e) (inf t) p q h k = absurd q
lt_equal (fin false m e) (fin false n d) p q h k = alike (m * up e * down d) (n * up d * down e) (omega (arith, nltb→le))
lt_equal (fin false m e) (fin true n d) p q h k = unlike (m * up e * down d) (n * up d * down e) (omega (arith, nltb→le))
lt_equal (fin true m e) (fin false n d) p q h k = unlike (m * up e * down d) (n * up d * down e) (omega (arith, nltb→le))
lt_equal (fin true m e) (fin true n d) p q h k = alike (m * up e * down d) (n * up d * down e) (omega (arith, nltb→le))

-- ---- the same of either kind of extreme
pub ahead_asym : (kind : Kind) (x y : Float) → T (finite x) → T (finite y) → T (ahead kind x y) → T (not (ahead kind y x))
ahead_asym Least x y p q h = lt_asym x y p q h
ahead_asym Greatest x y p q h = lt_asym y x q p h

pub not_ahead_trans : (kind : Kind) (x y z : Float) → T (finite x) → T (finite y) → T (finite z) → T (not (ahead kind x y)) → T (not (ahead kind y z))
    → T (not (ahead kind x z))
not_ahead_trans Least x y z p q r h k = not_lt_trans x y z p q r h k
not_ahead_trans Greatest x y z p q r h k = not_lt_trans z y x r q p k h

pub neither_ahead : (kind : Kind) (x y : Float) → T (finite x) → T (finite y) → T (not (ahead kind x y)) → T (not (ahead kind y x)) → T (eq x y)
neither_ahead Least x y p q h k = lt_equal x y p q h k
neither_ahead Greatest x y p q h k = lt_equal x y p q k h

-- ---- equal numbers of a format: the same size gives the same bits but for the sign
same_size : (f : Format) (m : ℕ) (e : ℤ) (n : ℕ) (d : ℤ) → m * up e * down d ≡ n * up d * down e
    → m * up e * 2 ^ low f / down e ≡ n * up d * 2 ^ low f / down d
same_size f m e n d h =
    let p : m * up e * 2 ^ low f * down d ≡ n * up d * 2 ^ low f * down e =
    mul_right_comm (m * up e) (2 ^ low f) (down d) ∙ ap (λ (k : ℕ). k * 2 ^ low f) h ∙ mul_right_comm (n * up d) (down e) (2 ^ low f) in
    le_antisymm
    (div_mono (m * up e * 2 ^ low f) (down e) (n * up d * 2 ^ low f) (down d) (down_pos e) (down_pos d) (le_of_eq p))
    (div_mono (n * up d * 2 ^ low f) (down d) (m * up e * 2 ^ low f) (down e) (down_pos d) (down_pos e) (le_of_eq (sym p)))

same_bits : (f : Format) (s : Bool) (m : ℕ) (e : ℤ) (n : ℕ) (d : ℤ) → m * up e * down d ≡ n * up d * down e
    → to_bits f (fin s m e) ≡ to_bits f (fin s n d)
unfolding to_bits
same_bits f s m e n d h = rw (same_size f m e n d h)

one_sign : (f : Format) (s : Bool) (m : ℕ) (e : ℤ) (n : ℕ) (d : ℤ) → T (fits f (fin s m e)) → T (fits f (fin s n d))
    → m * up e * down d ≡ n * up d * down e → fin s m e ≡ fin s n d
one_sign f s m e n d p q h =
    sym (of_bits-to_bits f (fin s m e) p) ∙ ap (of_bits f) (same_bits f s m e n d h) ∙ of_bits-to_bits f (fin s n d) q

-- what is nothing in size is a zero
no_size : (m : ℕ) (e d : ℤ) → m * up e * down d ≡ 0 → T (eqb m 0)
no_size m e d h = either (eq-zero-or-pos m)
  where
    either : (m ≡ 0) ⊎ (0 < m) → T (eqb m 0)
    either (inl z) = eq→eqb z
    either (inr k) = absurd (omega (arith, mul-pos (mul-pos k (up_pos e)) (down_pos d)))

sizes : (m : ℕ) (e : ℤ) (n : ℕ) (d : ℤ) (b : Bool) → T (eqb (m * up e * down d) (n * up d * down e) && b) → m * up e * down d ≡ n * up d * down e
sizes m e n d b h = eqb→eq (m * up e * down d) (n * up d * down e) (and_l (eqb (m * up e * down d) (n * up d * down e)) b h)

zeros : (m : ℕ) (e : ℤ) (n : ℕ) (d : ℤ) → T (eqb (m * up e * down d) (n * up d * down e) && eqb (m * up e * down d) 0)
    → T (eqb m 0) × T (eqb n 0)
zeros m e n d h =
    let a = m * up e * down d in
    let b = n * up d * down e in
    let p : a ≡ b = sizes m e n d (eqb a 0) h in
    let q : a ≡ 0 = eqb→eq a 0 (and_r (eqb a b) (eqb a 0) h) in
    (no_size m e d q, no_size n d e (sym p ∙ q))

pub same_number : (f : Format) (x y : Float) → T (finite x) → T (finite y) → T (fits f x) → T (fits f y) → T (eq x y)
    → (x ≡ y) ⊎ (T (is_zero x) × T (is_zero y))
unfolding eq
same_number f nan y p q u v h = absurd p
same_number f (inf s) y p q u v h = absurd p
same_number f (fin s m e) nan p q u v h = absurd q
same_number f (fin s m e) (inf t) p q u v h = absurd q
same_number f (fin false m e) (fin false n d) p q u v h = inl (one_sign f false m e n d u v (sizes m e n d true h))
same_number f (fin true m e) (fin true n d) p q u v h = inl (one_sign f true m e n d u v (sizes m e n d true h))
same_number f (fin false m e) (fin true n d) p q u v h = inr (zeros m e n d h)
same_number f (fin true m e) (fin false n d) p q u v h = inr (zeros m e n d h)
