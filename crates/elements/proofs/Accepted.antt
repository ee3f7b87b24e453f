-- What elements and a time that pass the checks satisfy. Assumes nothing.
use mathlib.Core.Path.{◌≡◌, refl, sym}
use mathlib.Core.Bool.{Bool, true, false, not, ◌||◌, ◌&&◌}
use Prim.Native.Nat.{ℕ, zero, suc, ◌*◌, ◌-◌, ◌≤◌, ◌<◌}
use native.Mathlib.Nat.{zero-mul, mul-zero, mul-le-mul_left}
use native.Mathlib.Omega.{arith}
use borrow.Author.Tests.{ltb-false, lt-ltb}
use lib.Dec.{ltb}
use lib.IntN.{ℤ, nat_abs, ◌-ℤ◌}
use Rattle.integer.specs.Bound.{Within}
use Rattle.integer.proofs.Bounds.{within_sub}
use Rattle.integer.proofs.Tests.{or_false}
use Rattle.refusal.specs.declared.Refusal.{Refusal}
use Rattle.time.specs.Range.{in_range}
use Rattle.time.proofs.Size.{in_range_size}
use Rattle.elements.specs.declared.Elements.{Elements}
use Rattle.elements.specs.Contract.{Near}
use Rattle.elements.specs.Elements.{refuse_if, perigee_below, least_motion, checked_to7, checked}
use Rattle.elements.specs.Time.{times_refused, time_refused, checked_at}
use Rattle.std.specs.Prelude.{Err, Ok, Result}

pub perigee_beyond : (a e : ℕ) → 10000000 < e → true ≡ perigee_below a e
unfolding perigee_below
perigee_beyond a e h =
    let z : 10000000 - e ≡ 0 = omega arith in
    sym (lt-ltb (a * (10000000 - e)) 64780000000000 (rw (z, mul-zero a) (omega arith)))

-- one more check, of a verdict and a test that are known
pub also : {v v' w : Result Unit Refusal} {f f' : Bool} (r : Refusal) → v ≡ v' → f ≡ f' → w ≡ refuse_if v f r → w ≡ refuse_if v' f' r
also r p q e = rw (← p, ← q) e

-- a verdict that stands after a check stood before it, and the check did not fail
pub record Stood (v : Result Unit Refusal) (fails : Bool) : Type 0 where
  pub before : v ≡ Ok tt
  pub holds : fails ≡ false

pub stood : (v : Result Unit Refusal) (fails : Bool) (r : Refusal) → refuse_if v fails r ≡ Ok tt → Stood v fails
unfolding refuse_if
stood (Err s) fails r e = let z : ◌≡◌ {A = ℕ} 0 1 = cc in absurd (omega arith)
stood (Ok tt) true r e = let z : ◌≡◌ {A = ℕ} 0 1 = cc in absurd (omega arith)
stood (Ok tt) false r e = record { before = refl; holds = refl }

pub record Accepted (el : Elements) : Type 0 where
  pub eccentricity_le : el.eccentricity ≤ 9_000_000
  pub axis_le : el.semi_major_axis ≤ 100_000_000
  pub motion_ge : least_motion el.half_mean_motion_derivative ≤ el.mean_motion
  pub motion_le : el.mean_motion ≤ 1_700_000_000
  pub node_rate : Within 200_000 el.node_rate
  pub perigee_rate : Within 200_000 el.perigee_rate
  pub revolution_le : el.epoch_revolution ≤ 99_999
  pub derivative : Within 1_000_000 el.half_mean_motion_derivative

-- what 5 leaves at least
pub least_motion_lem : (el : Elements) → checked_to7 el ≡ Ok tt → 20_000_000 ≤ el.mean_motion
unfolding checked_to7
least_motion_lem el e =
    let n = el.mean_motion in
    let s6' = stood _ _ _ (stood _ _ _ e).before in
    let s5 = stood _ _ _ (stood _ _ _ s6'.before).before in
    ltb-false _ _ (or_false (ltb n 20_000_000) (ltb 1_700_000_000 n) s5.holds).0

pub accepted : (el : Elements) → checked el ≡ Ok tt → Accepted el
unfolding checked checked_to7
accepted el e =
    let a = el.semi_major_axis in
    let n = el.mean_motion in
    let d = el.half_mean_motion_derivative in
    let s8 = stood _ _ _ e in
    let s16 = stood _ _ _ s8.before in
    let s7 = stood _ _ _ s16.before in
    let slow = or_false (ltb 1_000_000 (nat_abs d)) (ltb n (least_motion d)) s16.holds in
    let s6' = stood _ _ _ s7.before in
    let s6 = stood _ _ _ s6'.before in
    let s5 = stood _ _ _ s6.before in
    let s4 = stood _ _ _ s5.before in
    let s3 = stood _ _ _ s4.before in
    let s2 = stood _ _ _ s3.before in
    let s1 = stood _ _ _ s2.before in
    record {
      eccentricity_le = ltb-false _ _ s1.holds;
      axis_le = ltb-false _ _ (or_false (ltb a 6_600_000) (ltb 100_000_000 a) s2.holds).1;
      motion_ge = ltb-false _ _ slow.1;
      motion_le = ltb-false _ _ (or_false (ltb n 20_000_000) (ltb 1_700_000_000 n) s5.holds).1;
      node_rate = record { within = ltb-false _ _ s6.holds };
      perigee_rate = record { within = ltb-false _ _ s6'.holds };
      revolution_le = ltb-false _ _ s7.holds;
      derivative = record { within = ltb-false _ _ slow.0 };
    }

not_false : (b : Bool) → not b ≡ false → b ≡ true
not_false true e = refl
not_false false e = sym e

is_in_range : (t : ℤ) → not (in_range t) ≡ false → Within 3_476_476_799 t
is_in_range t e = record { within = in_range_size t (not_false (in_range t) e) }

-- the difference of two times in range
pub apart : (epoch time : ℤ) → not (in_range epoch) ≡ false → not (in_range time) ≡ false → Within 6_952_953_598 (time -ℤ epoch)
apart epoch time e t = within_sub (is_in_range time t) (is_in_range epoch e)

-- a size that is 0, or another within 30 days
near_size : (size Δ : ℕ) → (ltb 0 size && ltb 2_592_000 Δ) ≡ false → size * Δ ≤ size * 2_592_000
near_size zero Δ e = omega (arith, zero-mul Δ, zero-mul 2_592_000)
near_size (suc size) Δ e = mul-le-mul_left (suc size) (ltb-false 2_592_000 Δ (rw (lt-ltb 0 (suc size) (omega arith)) at e))

-- ---- a time that is not refused
module _ (epoch t : ℤ) (timely : times_refused epoch t ≡ false) where
  tests : (not (in_range t) ≡ false) × (ltb 31_622_400 (nat_abs (t -ℤ epoch)) ≡ false)
  unfolding times_refused
  tests =
      let far = ltb 31_622_400 (nat_abs (t -ℤ epoch)) in
      or_false (not (in_range t)) far (or_false (not (in_range epoch)) (not (in_range t) || far) timely).1

  pub within_year : Within 31_622_400 (t -ℤ epoch)
  within_year = record { within = ltb-false _ _ tests.1 }

  in_years : in_range t ≡ true
  in_years = not_false (in_range t) tests.0

module _ (el : Elements) (t : ℤ) (timely : time_refused el t ≡ false) where
  abbrev size : ℕ
  size = nat_abs el.half_mean_motion_derivative

  both : (times_refused el.epoch t ≡ false) × ((ltb 0 size && ltb 2_592_000 (nat_abs (t -ℤ el.epoch))) ≡ false)
  unfolding time_refused
  both = or_false (times_refused el.epoch t) (ltb 0 size && ltb 2_592_000 (nat_abs (t -ℤ el.epoch))) timely

  pub time_in_range : in_range t ≡ true
  time_in_range = in_years el.epoch t both.0

  near : Within 1_000_000 el.half_mean_motion_derivative → Near el.half_mean_motion_derivative (t -ℤ el.epoch)
  near h =
      record { derivative = h; elapsed = within_year el.epoch t both.0; near = near_size size (nat_abs (t -ℤ el.epoch)) both.1 }

-- ---- elements and a time
pub record AcceptedAt (el : Elements) (t : ℤ) : Type 0 where
  pub elements : Accepted el
  pub near : Near el.half_mean_motion_derivative (t -ℤ el.epoch)
  pub is_in_range : in_range t ≡ true

pub accepted_at : (el : Elements) (t : ℤ) → checked_at el t ≡ Ok tt → AcceptedAt el t
unfolding checked_at
accepted_at el t e =
    let s = stood (checked el) (time_refused el t) _ e in
    let a = accepted el s.before in
    record { elements = a; near = near el t s.holds a.derivative; is_in_range = time_in_range el t s.holds }
