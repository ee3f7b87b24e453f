-- The revolution: a passage for each turn, that it turns where the mean argument of latitude passes the node, that the number never falls, its
-- bounds, and that it is the epoch's at the epoch. Assumes nothing.
use mathlib.Core.Path.{◌≡◌}
use Prim.Native.Nat.{ℕ, ◌+◌, ◌*◌, ◌-◌, ◌/◌, ◌%◌, ◌^◌, ◌≤◌}
use native.Mathlib.Nat.{add-zero, mul-zero, add-mul, mul-le-mul_right}
use native.Mathlib.Omega.{arith}
use lib.Dec.{lit<, lit≤}
use lib.IntN.{ℤ, pos, nat_abs, ◌+ℤ◌, ◌-ℤ◌, ◌*ℤ◌, +ℤ_invr, *ℤ-zero}
use Rattle.integer.specs.Bound.{Within}
use Rattle.integer.specs.Division.{floor_z, mod_z}
use Rattle.integer.proofs.Bounds.{within_pos, within_add, within_more}
use Rattle.integer.proofs.Division.{parts_floor, floor_mono, floor_later, floor_unique}
use Rattle.integer.proofs.Parts.{up, dn, signed, parts_add, parts_sub, parts_within, within_parts, parts_le, parts_later, parts_later_square}
use Rattle.elements.specs.declared.Elements.{Elements}
use Rattle.orbit.specs.Revolution.{latitude_of, gain, node_passages, revolution, NeverFalls}
use Rattle.orbit.specs.Placement.{perigee_at}
use Rattle.orbit.specs.Turns.{elapsed_of, linear_term, quadratic_term, advance, mean_anomaly, drift, drifted}
use Rattle.elements.proofs.Accepted.{AcceptedAt, accepted_at}
use Rattle.orbit.proofs.AdvanceAndDrift.{linear_floor, product_within, advance_within, drift_within}

-- ---- a turn more is a passage more
pub turn_counts : (u : ℕ) (x : ℤ) → node_passages u (x +ℤ pos (2 ^ 32)) ≡ node_passages u x +ℤ pos 1
unfolding node_passages
turn_counts u x =
    let own = pos (u / 2 ^ 32) in
    let z = pos u +ℤ x in
    let z' = pos u +ℤ (x +ℤ pos (2 ^ 32)) in
    let p = parts_add (pos u) x in
    let p' = parts_add (pos u) (x +ℤ pos (2 ^ 32)) in
    let s = parts_add x (pos (2 ^ 32)) in
    let least = floor_mono z z' (2 ^ 32) 1 0 (lit< tt) (omega arith) in
    let most = floor_mono z' z (2 ^ 32) 0 1 (lit< tt) (omega arith) in
    let q = floor_z z (2 ^ 32) in
    omega (signed, parts_sub (floor_z z' (2 ^ 32)) own, parts_sub q own, parts_add (q -ℤ own) (pos 1))

-- a mean argument of latitude that is wrapped first has no turns of its own to take off
pub passages_wrapped : (u : ℕ) (x : ℤ) → floor_z (pos (u % 2 ^ 32) +ℤ x) (2 ^ 32) ≡ node_passages u x
unfolding node_passages
passages_wrapped u x =
    let z = pos (u % 2 ^ 32) +ℤ x in
    let z' = pos u +ℤ x in
    let p = parts_add (pos (u % 2 ^ 32)) x in
    let p' = parts_add (pos u) x in
    let least = floor_mono z z' (2 ^ 32) (u / 2 ^ 32) 0 (lit< tt) (omega arith) in
    let most = floor_mono z' z (2 ^ 32) 0 (u / 2 ^ 32) (lit< tt) (omega arith) in
    omega (signed, parts_sub (floor_z z' (2 ^ 32)) (pos (u / 2 ^ 32)))

-- ---- where it turns
-- what A and B leave of a turn is the mean argument of latitude of the state: it is counted where the mean anomaly and the argument of perigee
-- together pass a whole turn
pub latitude_at : (el : Elements) (t : ℤ)
    → mod_z (pos (latitude_of el) +ℤ gain el t) (2 ^ 32) ≡ (mean_anomaly el t + perigee_at el t) % 2 ^ 32
unfolding gain mean_anomaly perigee_at drifted
latitude_at el t =
    let A = advance el t in
    let B = drift el.perigee_rate (elapsed_of el t) in
    let M0 = pos el.mean_anomaly in
    let ω = pos el.argument_of_perigee in
    let q = floor_z (M0 +ℤ A) (2 ^ 32) in
    let q' = floor_z (ω +ℤ B) (2 ^ 32) in
    let sum = mod_z (M0 +ℤ A) (2 ^ 32) + mod_z (ω +ℤ B) (2 ^ 32) in
    let carry = pos (sum / 2 ^ 32) in
    (floor_unique (pos (latitude_of el) +ℤ (A +ℤ B)) (q +ℤ q' +ℤ carry) (2 ^ 32) (sum % 2 ^ 32) (omega arith)
    (omega (
      arith,
      parts_add (pos (latitude_of el)) (A +ℤ B),
      parts_add A B,
      parts_add M0 A,
      parts_add ω B,
      parts_add (q +ℤ q') carry,
      parts_add q q',
      parts_floor (M0 +ℤ A) (2 ^ 32) (lit< tt),
      parts_floor (ω +ℤ B) (2 ^ 32) (lit< tt),
    ))).1

-- ---- the number never falls
module _ (el : Elements) (t t' : ℤ) (k : ℕ) (a : AcceptedAt el t) (a' : AcceptedAt el t') (later : up t' + dn t ≡ up t + (dn t' + k)) where
  abbrev Δ : ℤ
  Δ = elapsed_of el t

  abbrev Δ' : ℤ
  Δ' = elapsed_of el t'

  abbrev n : ℕ
  n = el.mean_motion

  abbrev d : ℤ
  d = el.half_mean_motion_derivative

  abbrev rate : ℤ
  rate = el.perigee_rate

  elapsed_later : up Δ' + dn Δ ≡ up Δ + (dn Δ' + k)
  elapsed_later = omega (arith, parts_sub t el.epoch, parts_sub t' el.epoch)

  -- what the linear term rises by, at least, and the quadratic term falls by, at most, in a second: 5,184,000 s are twice 30 days
  abbrev rise : ℕ
  rise = n * 2 ^ 17 / 263_671_875

  abbrev fall : ℕ
  fall = (nat_abs d * 5_184_000 * 2 ^ 10 + 177_978_515_624) / 177_978_515_625

  linear_rises : up (linear_term n Δ) + (dn (linear_term n Δ') + rise * k) ≤ up (linear_term n Δ') + dn (linear_term n Δ)
  linear_rises =
      rw (linear_floor n Δ, linear_floor n Δ')
      (omega (arith, floor_later (pos n *ℤ Δ) (pos n *ℤ Δ') n 0 k (2 ^ 17) 263_671_875 rise 0 (lit< tt) (parts_later (pos n) Δ Δ' k elapsed_later) (omega arith)))

  quadratic_falls : up (quadratic_term d Δ) + dn (quadratic_term d Δ') ≤ up (quadratic_term d Δ') + (dn (quadratic_term d Δ) + fall * k)
  unfolding quadratic_term
  quadratic_falls =
      let b = (parts_within (d *ℤ Δ) (product_within d Δ a.near)).1 in
      let b' = (parts_within (d *ℤ Δ') (product_within d Δ' a'.near)).1 in
      omega (arith, floor_later (d *ℤ Δ *ℤ Δ) (d *ℤ Δ' *ℤ Δ') _ _ k (2 ^ 10) 177_978_515_625 0 fall (lit< tt) (parts_later_square d Δ Δ' k elapsed_later) (omega arith))

  -- A rises by at least 9,941 a second
  advance_rises : up (advance el t) + (dn (advance el t') + 9_941 * k) ≤ up (advance el t') + dn (advance el t)
  unfolding advance
  advance_rises =
      let enough : fall + 9_941 ≤ rise = omega (arith, a.elements.motion_ge) in
      let more = mul-le-mul_right k enough in
      omega (
        arith,
        simp add-mul at more,
        linear_rises,
        quadratic_falls,
        parts_add (linear_term n Δ) (quadratic_term d Δ),
        parts_add (linear_term n Δ') (quadratic_term d Δ'),
      )

  -- B falls by at most 2,762 a second
  drift_falls : up (drift rate Δ) + dn (drift rate Δ') ≤ up (drift rate Δ') + (dn (drift rate Δ) + 2_762 * k)
  unfolding drift
  drift_falls =
      let slow = (parts_within rate a.elements.perigee_rate).1 in
      omega (arith, floor_later (rate *ℤ Δ) (rate *ℤ Δ') _ _ k (2 ^ 18) 18_984_375 0 2_762 (lit< tt) (parts_later rate Δ Δ' k elapsed_later) (omega arith))

  -- and so A + B rises
  gain_rises : up (gain el t) + dn (gain el t') ≤ up (gain el t') + dn (gain el t)
  unfolding gain
  gain_rises =
      omega (arith, advance_rises, drift_falls, parts_add (advance el t) (drift rate Δ), parts_add (advance el t') (drift rate Δ'))

-- where a gain is not below another, nor are the passages
passages_rise : (u : ℕ) (x x' : ℤ) → up x + dn x' ≤ up x' + dn x
    → up (node_passages u x) + dn (node_passages u x') ≤ up (node_passages u x') + dn (node_passages u x)
unfolding node_passages
passages_rise u x x' h =
    let z = pos u +ℤ x in
    let z' = pos u +ℤ x' in
    let m = floor_mono z z' (2 ^ 32) 0 0 (lit< tt) (omega (arith, parts_add (pos u) x, parts_add (pos u) x')) in
    omega (arith, m, parts_sub (floor_z z (2 ^ 32)) (pos (u / 2 ^ 32)), parts_sub (floor_z z' (2 ^ 32)) (pos (u / 2 ^ 32)))

pub never_falls : NeverFalls
unfolding revolution
never_falls el t t' passed passed' le =
    let k = (up t' + dn t) - (up t + dn t') in
    let order = parts_le t t' le in
    let rise = gain_rises el t t' k (accepted_at el t passed) (accepted_at el t' passed') (omega arith) in
    let u = latitude_of el in
    let first = pos el.epoch_revolution in
    let p = node_passages u (gain el t) in
    let p' = node_passages u (gain el t') in
    omega (signed, passages_rise u (gain el t) (gain el t') rise, parts_add first p, parts_add first p')

-- ---- bounds
-- as many passages at most as whole turns are gained
pub passages_within : (c u : ℕ) (x : ℤ) → Within (c * 2 ^ 32) x → Within c (node_passages u x)
unfolding node_passages
passages_within c u x h =
    let z = pos u +ℤ x in
    let s = parts_add (pos u) x in
    let b = parts_within x h in
    let above = floor_mono z (pos u) (2 ^ 32) 0 c (lit< tt) (omega (arith, s, b.0)) in
    let below = floor_mono (pos u) z (2 ^ 32) 0 c (lit< tt) (omega (arith, s, b.1)) in
    let d = parts_sub (floor_z z (2 ^ 32)) (pos (u / 2 ^ 32)) in
    within_parts c (floor_z z (2 ^ 32) -ℤ pos (u / 2 ^ 32)) (omega (arith, d)) (omega (arith, d))

module _ (el : Elements) (t : ℤ) (a : AcceptedAt el t) where
  gain_within : Within (10_000 * 2 ^ 32) (gain el t)
  unfolding gain
  gain_within =
      within_more
      (within_add (advance_within el t a.elements.motion_le a.near) (drift_within _ _ a.elements.perigee_rate a.near.elapsed)) (lit≤ tt)

  pub revolution_within : Within 109_999 (revolution el t)
  unfolding revolution
  revolution_within =
      within_more (within_add (within_pos a.elements.revolution_le) (passages_within 10_000 (latitude_of el) (gain el t) gain_within)) (lit≤ tt)

-- ---- what it starts from
-- the revolution of the epoch, at the epoch
pub at_epoch : (el : Elements) → revolution el el.epoch ≡ pos el.epoch_revolution
unfolding revolution gain advance quadratic_term drift node_passages
at_epoch el =
    let n = el.mean_motion in
    let u = latitude_of el in
    rw (+ℤ_invr el.epoch, linear_floor n (pos 0), mul-zero n, *ℤ-zero el.half_mean_motion_derivative, *ℤ-zero el.perigee_rate, add-zero u, +ℤ_invr (pos (u / 2 ^ 32)), add-zero el.epoch_revolution)
