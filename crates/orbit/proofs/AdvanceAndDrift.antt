-- A and drift: the linear term as one quotient, and the bounds of all terms. Assumes nothing.
use mathlib.Core.Path.{◌≡◌, refl, sym}
use Prim.Native.Nat.{ℕ, ◌+◌, ◌*◌, ◌%◌, ◌^◌, ◌≤◌, ◌<◌}
use native.Mathlib.Nat.{le_refl, mul-le-mul_right}
use native.Mathlib.Omega.{arith}
use lib.Dec.{lit≤}
use lib.IntN.{ℤ, pos, negsuc, nat_abs, ◌*ℤ◌}
use Rattle.integer.specs.Bound.{Within}
use Rattle.integer.specs.Division.{floor_z, mod_z}
use Rattle.integer.proofs.Bounds.{within_pos, within_add, within_mul, within_more}
use Rattle.integer.proofs.Division.{mod_below, parts_floor, floor_unique, within_floor, within_product_floor}
use Rattle.integer.proofs.Parts.{up, dn, parts_add, parts_scale}
use Rattle.integer.proofs.Ring.{ring}
use Rattle.integer.proofs.Sizes.{nat_abs_mul}
use Rattle.elements.specs.declared.Elements.{Elements}
use Rattle.elements.specs.Contract.{Near}
use Rattle.orbit.specs.Turns.{elapsed_of, whole_turns, part_turn, linear_term, quadratic_term, advance, drift}

-- ---- the linear term
module _ (n : ℕ) (Δ : ℤ) where
  pub part_below : part_turn n Δ < 2 ^ 32
  unfolding part_turn
  part_below = omega (arith, mod_below (pos n *ℤ Δ) 8_640_000_000_000 (lit≤ tt))

  -- it is w·2^32 and the part turn
  pub linear_parts : let w = whole_turns n Δ in up (linear_term n Δ) + dn w * 2 ^ 32 ≡ dn (linear_term n Δ) + (up w * 2 ^ 32 + part_turn n Δ)
  unfolding linear_term
  linear_parts =
      let s = parts_scale (whole_turns n Δ) (2 ^ 32) in
      omega (arith, s.0, s.1, parts_add (whole_turns n Δ *ℤ pos (2 ^ 32)) (pos (part_turn n Δ)))

  -- it is one quotient: n·Δ·2^17 / 263,671,875 down
  pub linear_floor : linear_term n Δ ≡ floor_z (pos n *ℤ Δ *ℤ pos (2 ^ 17)) 263_671_875
  unfolding whole_turns part_turn
  linear_floor =
      let z = pos n *ℤ Δ in
      let m = mod_z z 8_640_000_000_000 in
      let s = parts_scale z (2 ^ 17) in
      sym (floor_unique (z *ℤ pos (2 ^ 17)) (linear_term n Δ) 263_671_875 (m * 2 ^ 17 % 263_671_875) (omega arith)
      (omega (arith, s.0, s.1, parts_floor z 8_640_000_000_000 (lit≤ tt), linear_parts))).0

  pub linear_within : n ≤ 1_700_000_000 → Within 31_622_400 Δ → Within (8_000 * 2 ^ 32) (linear_term n Δ)
  linear_within h k =
      rw linear_floor (within_more (within_product_floor (2 ^ 17) 263_671_875 (within_pos h) k) (lit≤ tt))

-- ---- the quadratic term
-- the greatest d, 0.01 revolution a day squared, makes nine turns of thirty days
pub nine_turns : quadratic_term (pos 1_000_000) (pos 2_592_000) ≡ pos (9 * 2 ^ 32)
unfolding quadratic_term
nine_turns = refl

-- with d = -1 a second takes off a unit: the term is rounded down, and not toward zero
pub one_below : quadratic_term (negsuc 0) (pos 1) ≡ negsuc 0
unfolding quadratic_term
one_below = refl

module _ (d Δ : ℤ) (h : Near d Δ) where
  pub product_within : Within (nat_abs d * 2_592_000) (d *ℤ Δ)
  product_within = record { within = rw (nat_abs_mul d Δ) h.near }

  -- d·Δ² is at most that of the greatest d in 30 days
  pub square_within : Within (1_000_000 * 2_592_000 * 2_592_000) (d *ℤ Δ *ℤ Δ)
  square_within =
      let once = mul-le-mul_right (nat_abs Δ) h.near in
      let twice = mul-le-mul_right 2_592_000 h.near in
      record { within = rw (nat_abs_mul (d *ℤ Δ) Δ, nat_abs_mul d Δ) (omega (arith, simp ring at once, simp ring at twice, h.derivative.within)) }

  pub quadratic_within : Within (10 * 2 ^ 32) (quadratic_term d Δ)
  unfolding quadratic_term
  quadratic_within =
      within_more (within_floor (d *ℤ Δ *ℤ Δ *ℤ pos (2 ^ 10)) 177_978_515_625 (within_mul square_within (within_pos (le_refl (2 ^ 10))))) (lit≤ tt)

pub advance_within : (el : Elements) (t : ℤ) → el.mean_motion ≤ 1_700_000_000 → Near el.half_mean_motion_derivative (elapsed_of el t)
    → Within (9_000 * 2 ^ 32) (advance el t)
unfolding advance
advance_within el t h k = within_more (within_add (linear_within _ _ h k.elapsed) (quadratic_within _ _ k)) (lit≤ tt)

-- ---- drift
pub drift_within : (rate Δ : ℤ) → Within 200_000 rate → Within 31_622_400 Δ → Within (1_000 * 2 ^ 32) (drift rate Δ)
unfolding drift
drift_within rate Δ h k = within_more (within_product_floor (2 ^ 18) 18_984_375 h k) (lit≤ tt)
