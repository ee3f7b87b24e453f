-- A signed number as two naturals of which one is 0: z = up z - dn z. With these laws in its list `omega` proves what is linear in
-- signed numbers: `parts_le` reads a hypothesis, `le_parts` and `eq_parts` turn the goal, and the laws of sums, differences and
-- products by a natural say what the parts of a result are. Assumes nothing.
use mathlib.Core.Path.{◌≡◌, refl, sym, ap, ◌∙◌, subst}
use mathlib.Core.Bool.{Bool, false, not}
use Prim.Native.Nat.{ℕ, zero, suc, ◌+◌, ◌*◌, ◌-◌, ◌≤◌}
use native.Mathlib.Nat.{zero-mul, mul-zero, add-mul}
use native.Mathlib.Omega.{arith}
use lib.Dec.{T, ltb, ltb→lt, nltb→le, leb→le, le→leb}
use lib.IntN.{ℤ, pos, negsuc, neg_ℤ, sub_ℕ, ◌+ℤ◌, ◌-ℤ◌, ◌*ℤ◌}
use lib.Signed.{lt_z, le_z, ◌≤ℤ◌}
use Rattle.integer.specs.Bound.{Within}
use Rattle.integer.proofs.Ring.{ring}
use Rattle.integer.proofs.Sizes.{cond_ind}

abbrev pub up : ℤ → ℕ
up (pos n) = n
up (negsuc n) = 0

abbrev pub dn : ℤ → ℕ
dn (pos n) = 0
dn (negsuc n) = suc n

-- a positive sum is not 0
nonzero : {P : Type 0} (a b : ℕ) → a + suc b ≤ 0 → P
nonzero a b h = absurd (omega arith)

-- ---- the order
le_to : (a b : ℤ) → T (le_z a b) → up a + dn b ≤ up b + dn a
le_to (pos a) (pos b) t = omega (arith, leb→le)
le_to (pos a) (negsuc b) t = absurd t
le_to (negsuc a) (pos b) t = omega arith
le_to (negsuc a) (negsuc b) t = omega (arith, leb→le)

le_of : (a b : ℤ) → up a + dn b ≤ up b + dn a → T (le_z a b)
le_of (pos a) (pos b) h = omega (arith, le→leb)
le_of (pos a) (negsuc b) h = nonzero a b h
le_of (negsuc a) (pos b) h = tt
le_of (negsuc a) (negsuc b) h = omega (arith, le→leb)

pub parts_le : (a b : ℤ) → a ≤ℤ b → up a + dn b ≤ up b + dn a
parts_le a b h = le_to a b h.le

pub le_parts : (a b : ℤ) → up a + dn b ≤ up b + dn a → a ≤ℤ b
le_parts a b h = record { le = le_of a b h }

-- ---- a test of the code that failed, as its flag has it
nlt : (a b : ℤ) → T (not (lt_z a b)) → up b + dn a ≤ up a + dn b
nlt (pos a) (pos b) t = omega (arith, nltb→le)
nlt (pos a) (negsuc b) t = omega arith
nlt (negsuc a) (pos b) t = absurd t
nlt (negsuc a) (negsuc b) t = omega (arith, nltb→le)

pub test_ge : (a b : ℤ) → lt_z a b ≡ false → up b + dn a ≤ up a + dn b
test_ge a b e = nlt a b (subst (λ (t : Bool). T (not t)) (sym e) tt)

-- ---- equality
pub eq_parts : (a b : ℤ) → up a + dn b ≡ up b + dn a → a ≡ b
eq_parts (pos a) (pos b) h = ap pos (omega arith)
eq_parts (pos a) (negsuc b) h = nonzero a b (omega arith)
eq_parts (negsuc a) (pos b) h = nonzero b a (omega arith)
eq_parts (negsuc a) (negsuc b) h = ap negsuc (omega arith)

pub ruleset signed = (arith, parts_le, le_parts, eq_parts)

-- ---- sums and differences
parts_neg : (a : ℤ) → (up (neg_ℤ a) ≡ dn a) × (dn (neg_ℤ a) ≡ up a)
parts_neg (pos zero) = (refl, refl)
parts_neg (pos (suc a)) = (refl, refl)
parts_neg (negsuc a) = (refl, refl)

parts_subℕ : (a b : ℕ) → up (sub_ℕ a b) + b ≡ dn (sub_ℕ a b) + a
parts_subℕ a b =
    cond_ind (ltb a b) (negsuc (b - suc a)) (pos (a - b)) (λ z. up z + b ≡ dn z + a)
    (λ t. let h = ltb→lt a b t in omega arith) (λ t. let h = nltb→le a b t in omega arith)

pub parts_add : (a b : ℤ) → up (a +ℤ b) + (dn a + dn b) ≡ dn (a +ℤ b) + (up a + up b)
parts_add (pos a) (pos b) = omega arith
parts_add (pos a) (negsuc b) = let h = parts_subℕ a (suc b) in omega arith
parts_add (negsuc a) (pos b) = let h = parts_subℕ b (suc a) in omega arith
parts_add (negsuc a) (negsuc b) = omega arith

pub parts_sub : (a b : ℤ) → up (a -ℤ b) + (dn a + up b) ≡ dn (a -ℤ b) + (up a + dn b)
parts_sub a b = let h = parts_add a (neg_ℤ b) in let k = parts_neg b in omega (arith, k.0, k.1)

-- ---- products by a natural
pub parts_scale : (z : ℤ) (k : ℕ) → (up (z *ℤ pos k) ≡ up z * k) × (dn (z *ℤ pos k) ≡ dn z * k)
parts_scale (pos a) k = (refl, sym (zero-mul k))
parts_scale (negsuc a) k = let n = parts_neg (pos (suc a * k)) in (n.0 ∙ sym (zero-mul k), n.1)

-- ---- products
parts_mul : (r z : ℤ) → (up (r *ℤ z) ≡ up r * up z + dn r * dn z) × (dn (r *ℤ z) ≡ up r * dn z + dn r * up z)
parts_mul (pos a) (pos b) = (omega arith, omega (arith, mul-zero a, zero-mul b))
parts_mul (pos a) (negsuc b) =
    let n = parts_neg (pos (a * suc b)) in (omega (arith, n.0, mul-zero a, zero-mul (suc b)), omega (arith, n.1))
parts_mul (negsuc a) (pos b) =
    let n = parts_neg (pos (suc a * b)) in (omega (arith, n.0, mul-zero (suc a), zero-mul b), omega (arith, n.1))
parts_mul (negsuc a) (negsuc b) = (omega arith, omega (arith, mul-zero (suc a), zero-mul (suc b)))

-- where z' is z + k, r·z' is r·z + r·k
pub parts_later : (r z z' : ℤ) (k : ℕ) → up z' + dn z ≡ up z + (dn z' + k)
    → up (r *ℤ z') + (dn (r *ℤ z) + dn r * k) ≡ up (r *ℤ z) + (dn (r *ℤ z') + up r * k)
parts_later r z z' k e =
    let p = parts_mul r z in
    let p' = parts_mul r z' in
    let u = ap (λ (n : ℕ). up r * n) e in
    let d = ap (λ (n : ℕ). dn r * n) e in
    omega (arith, p.0, p.1, p'.0, p'.1, simp ring at u, simp ring at d)

mul_swap : (a b c : ℤ) → a *ℤ b *ℤ c ≡ a *ℤ c *ℤ b
mul_swap a b c =
    let ab = parts_mul a b in
    let ac = parts_mul a c in
    let l = parts_mul (a *ℤ b) c in
    let r = parts_mul (a *ℤ c) b in
    eq_parts (a *ℤ b *ℤ c) (a *ℤ c *ℤ b) (rw (l.0, l.1, r.0, r.1, ab.0, ab.1, ac.0, ac.1) (simp ring (omega arith)))

-- and r·z'·z' is r·z·z + (r·z + r·z')·k
pub parts_later_square : (r z z' : ℤ) (k : ℕ) → up z' + dn z ≡ up z + (dn z' + k)
    → up (r *ℤ z' *ℤ z') + (dn (r *ℤ z *ℤ z) + (dn (r *ℤ z) + dn (r *ℤ z')) * k) ≡ up (r *ℤ z *ℤ z) + (dn (r *ℤ z' *ℤ z') + (up (r *ℤ z) + up (r *ℤ z')) * k)
parts_later_square r z z' k e =
    let first = parts_later (r *ℤ z) z z' k e in
    let second = rw (mul_swap r z' z) at (parts_later (r *ℤ z') z z' k e) in
    simp add-mul (omega arith)

-- ---- bounds
-- a number that is neither above b nor below -b
pub within_parts : (b : ℕ) (z : ℤ) → up z ≤ dn z + b → dn z ≤ up z + b → Within b z
within_parts b (pos n) h k = record { within = omega arith }
within_parts b (negsuc n) h k = record { within = omega arith }

pub parts_within : {b : ℕ} (z : ℤ) → Within b z → (up z ≤ b) × (dn z ≤ b)
parts_within (pos n) h = (h.within, omega arith)
parts_within (negsuc n) h = (omega arith, h.within)
