-- The quotient down and the mod. Assumes nothing.
use mathlib.Core.Path.{◌≡◌, sym, ap}
use Prim.Native.Nat.{ℕ, ◌+◌, ◌*◌, ◌/◌, ◌%◌, ◌≤◌, ◌<◌}
use native.Mathlib.Decide.{dec_le}
use native.Mathlib.Nat.{zero-mul, suc-mul, add-mul, mod-lt, div-add-mod', lt_of_not-le, le_refl, mul-le-mul_right}
use native.Mathlib.Omega.{arith}
use lib.IntN.{ℤ, pos, negsuc, ◌+ℤ◌, ◌*ℤ◌}
use Rattle.integer.specs.Bound.{Within}
use Rattle.integer.specs.Division.{floor_z, mod_z}
use Rattle.integer.proofs.Bounds.{div_mono, within_pos, within_mul}
use Rattle.integer.proofs.Parts.{up, dn, eq_parts, parts_add, parts_scale, within_parts, parts_within}
use Rattle.integer.proofs.Ring.{ring}

pub mod_below : (z : ℤ) (d : ℕ) → 0 < d → mod_z z d < d
mod_below (pos a) d h = mod-lt a h
mod_below (negsuc a) d h = omega arith

-- z is the quotient times the divisor, and the remainder
pub parts_floor : (z : ℤ) (d : ℕ) → 0 < d → up z + dn (floor_z z d) * d ≡ up (floor_z z d) * d + (mod_z z d + dn z)
parts_floor (pos a) d h = let e = div-add-mod' a d in omega (arith, zero-mul d)
parts_floor (negsuc a) d h = let e = div-add-mod' a d in let m = mod-lt a h in omega (arith, zero-mul d)

quotient_le : (a b d r s : ℕ) → s < d → a * d + r ≤ b * d + s → a ≤ b
quotient_le a b d r s h le = by (dec_le a b)
  where
    by : Dec (a ≤ b) → a ≤ b
    by (yes l) = l
    by (no f) = let l = mul-le-mul_right d (lt_of_not-le f) in absurd (omega (arith, suc-mul b d))

-- a quotient down rises with its number: where z + i·d ≤ z' + j·d, z/d + i ≤ z'/d + j
pub floor_mono : (z z' : ℤ) (d i j : ℕ) → 0 < d → up z + (dn z' + i * d) ≤ up z' + (dn z + j * d)
    → up (floor_z z d) + (dn (floor_z z' d) + i) ≤ up (floor_z z' d) + (dn (floor_z z d) + j)
floor_mono z z' d i j h le =
    let q = floor_z z d in
    let q' = floor_z z' d in
    quotient_le (up q + (dn q' + i)) (up q' + (dn q + j)) d (mod_z z d) (mod_z z' d) (mod_below z' d h)
    (simp add-mul (omega (arith, parts_floor z d h, parts_floor z' d h)))

-- z·s / d, down, where z' is z + (a - b)·k: with (a - b)·s at least (i - j)·d it grows by at least (i - j)·k
pub floor_later : (z z' : ℤ) (a b k s d i j : ℕ) → 0 < d → up z' + (dn z + b * k) ≡ up z + (dn z' + a * k) → i * d + b * s ≤ j * d + a * s
    → up (floor_z (z *ℤ pos s) d) + (dn (floor_z (z' *ℤ pos s) d) + i * k) ≤ up (floor_z (z' *ℤ pos s) d) + (dn (floor_z (z *ℤ pos s) d) + j * k)
floor_later z z' a b k s d i j h later rate =
    let p = parts_scale z s in
    let p' = parts_scale z' s in
    let grown = ap (λ (n : ℕ). n * s) later in
    let enough = mul-le-mul_right k rate in
    floor_mono (z *ℤ pos s) (z' *ℤ pos s) d (i * k) (j * k) h
    (rw (p.0, p.1, p'.0, p'.1) (simp ring (omega (arith, simp ring at grown, simp ring at enough))))

-- q and r are the quotient and the remainder where z = q·d + r and r is below d
pub floor_unique : (z q : ℤ) (d r : ℕ) → r < d → up z + dn q * d ≡ up q * d + (r + dn z) → (floor_z z d ≡ q) × (mod_z z d ≡ r)
floor_unique z q d r h e =
    let f = floor_z z d in
    let m = mod_z z d in
    let p = parts_floor z d (omega arith) in
    let le = quotient_le (up f + dn q) (up q + dn f) d m r h (simp add-mul (omega arith)) in
    let ge = quotient_le (up q + dn f) (up f + dn q) d r m (mod_below z d (omega arith)) (simp add-mul (omega arith)) in
    let same : up f + dn q ≡ up q + dn f = omega arith in
    let product = ap (λ (n : ℕ). n * d) same in
    (eq_parts f q same, omega (arith, simp add-mul at product))

-- z·s / d, down, from the quotient and the remainder of z / d
pub floor_scaled : (z : ℤ) (s d : ℕ) → 0 < d → floor_z z d *ℤ pos s +ℤ pos (mod_z z d * s / d) ≡ floor_z (z *ℤ pos s) d
floor_scaled z s d h =
    let q = floor_z z d in
    let part = mod_z z d * s / d in
    let sum = q *ℤ pos s +ℤ pos part in
    let scaled = parts_scale z s in
    let whole = parts_scale q s in
    let added = ap (λ (n : ℕ). n * d) (rw (whole.0, whole.1) at (parts_add (q *ℤ pos s) (pos part))) in
    let divided = ap (λ (n : ℕ). n * s) (parts_floor z d h) in
    let e = div-add-mod' (mod_z z d * s) d in
    sym (floor_unique (z *ℤ pos s) sum d (mod_z z d * s % d) (mod-lt (mod_z z d * s) h)
    (rw (scaled.0, scaled.1) (omega (arith, simp ring at added, simp ring at divided, simp ring at e)))).0

-- and the whole part of it is no larger than the sum and the other part
pub whole_within : {b : ℕ} (z : ℤ) (s d : ℕ) → 0 < d → Within b (floor_z (z *ℤ pos s) d) → Within (b + mod_z z d * s / d) (floor_z z d *ℤ pos s)
whole_within {b} z s d h small =
    let whole = floor_z z d *ℤ pos s in
    let part = mod_z z d * s / d in
    let sum = parts_within {b = b} (whole +ℤ pos part) (rw (floor_scaled z s d h) small) in
    let p = parts_add whole (pos part) in
    within_parts (b + part) whole (omega (arith, sum.0)) (omega (arith, sum.1))

pub within_floor : {b : ℕ} (z : ℤ) (d : ℕ) → Within b z → Within (b / d + 1) (floor_z z d)
within_floor (pos a) d h = record { within = let m = div_mono d h.within in omega arith }
within_floor {b} (negsuc a) d h =
    record { within = let m : a / d ≤ b / d = div_mono d (omega (arith, h.within)) in omega arith }

pub within_product_floor : {a b : ℕ} {r z : ℤ} (s d : ℕ) → Within a r → Within b z → Within (a * b * s / d + 1) (floor_z (r *ℤ z *ℤ pos s) d)
within_product_floor {r = r} {z = z} s d h k =
    within_floor (r *ℤ z *ℤ pos s) d (within_mul (within_mul h k) (within_pos (le_refl s)))
