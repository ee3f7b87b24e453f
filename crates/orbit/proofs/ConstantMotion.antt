-- A constant mean motion, d = 0: every answer comes from w and the part turn alone. Assumes nothing.
use mathlib.Core.Path.{◌≡◌, refl, ap}
use mathlib.Core.Bool.{Bool, true, false, ◌||◌}
use Prim.Native.Nat.{ℕ, ◌-◌, ◌^◌, ◌≤◌, ◌<◌}
use native.Mathlib.Decide.{dec_lt}
use native.Mathlib.Nat.{lt_of_not-le}
use native.Mathlib.Omega.{arith}
use borrow.Author.Tests.{le-leb, lt-leb, le-ltb}
use lib.IntN.{ℤ, pos, nat_abs, ◌+ℤ◌, zero-*ℤ, +ℤ_idr}
use Rattle.integer.specs.Division.{mod_z}
use Rattle.integer.proofs.Division.{floor_unique}
use Rattle.integer.proofs.Parts.{parts_add}
use Rattle.refusal.specs.declared.Refusal.TheVariants.{MeanMotionDerivative}
use Rattle.elements.specs.declared.Elements.{Elements}
use Rattle.orbit.specs.ConstantMotion.{anomaly_sum, constant_anomaly, constant_revolution, constant_checked, constant_checked_at, constant_state, ConstantMotion}
use Rattle.elements.specs.Elements.{refuse_if, derivative_beyond, checked_to7, checked}
use Rattle.orbit.specs.Placement.{state_with, state_of, placement}
use Rattle.orbit.specs.Revolution.{gain, revolution}
use Rattle.elements.specs.Time.{times_refused, time_refused, checked_at}
use Rattle.orbit.specs.Turns.{elapsed_of, whole_turns, linear_term, quadratic_term, advance, mean_anomaly}
use Rattle.elements.proofs.Accepted.{least_motion_lem}
use Rattle.orbit.proofs.AdvanceAndDrift.{part_below, linear_parts}
use Rattle.refusal.specs.declared.Refusal.{Refusal}
use Rattle.std.specs.Prelude.{Err, Ok, Result}

-- ---- the sum of two cases wraps
module _ (el : Elements) (t : ℤ) (held : el.mean_anomaly < 2 ^ 32) where
  abbrev M0 : ℕ
  M0 = el.mean_anomaly

  abbrev n : ℕ
  n = el.mean_motion

  abbrev Δ : ℤ
  Δ = elapsed_of el t

  wraps : mod_z (pos M0 +ℤ linear_term n Δ) (2 ^ 32) ≡ constant_anomaly el t
  unfolding constant_anomaly anomaly_sum
  wraps = by (dec_lt (anomaly_sum el t) (2 ^ 32))
    where
      by : Dec (anomaly_sum el t < 2 ^ 32) → mod_z (pos M0 +ℤ linear_term n Δ) (2 ^ 32) ≡ constant_anomaly el t
      by (yes h) =
          rw (lt-leb (2 ^ 32) (anomaly_sum el t) h, constant_anomaly)
          (floor_unique (pos M0 +ℤ linear_term n Δ) (whole_turns n Δ) (2 ^ 32) (anomaly_sum el t) h (omega (arith, linear_parts n Δ, parts_add (pos M0) (linear_term n Δ)))).1
      by (no f) =
          let h : 2 ^ 32 ≤ anomaly_sum el t = omega (arith, lt_of_not-le f) in
          let w = whole_turns n Δ in
          rw (le-leb (2 ^ 32) (anomaly_sum el t) h, constant_anomaly)
          (floor_unique (pos M0 +ℤ linear_term n Δ) (w +ℤ pos 1) (2 ^ 32) (anomaly_sum el t - 2 ^ 32) (omega (arith, part_below n Δ))
          (omega (arith, linear_parts n Δ, parts_add (pos M0) (linear_term n Δ), parts_add w (pos 1)))).1

or_never : (b : Bool) → (b || false) ≡ b
or_never true = refl
or_never false = refl

-- ---- the quadratic term is 0
module _ (el : Elements) (t : ℤ) (none : el.half_mean_motion_derivative ≡ pos 0) where
  linear_alone : advance el t ≡ linear_term el.mean_motion (elapsed_of el t)
  unfolding advance quadratic_term
  linear_alone =
      rw (none, zero-*ℤ (elapsed_of el t), zero-*ℤ (elapsed_of el t), +ℤ_idr (linear_term el.mean_motion (elapsed_of el t)))

  anomaly : el.mean_anomaly < 2 ^ 32 → mean_anomaly el t ≡ constant_anomaly el t
  unfolding mean_anomaly
  anomaly held = rw linear_alone (wraps el t held)

  count : revolution el t ≡ constant_revolution el t
  unfolding revolution gain constant_revolution
  count = rw linear_alone

  -- 16 is not given: a mean motion that passes 5 is high enough
  not_16 : (v : Result Unit Refusal) → checked_to7 el ≡ v → refuse_if v (derivative_beyond el.mean_motion el.half_mean_motion_derivative) MeanMotionDerivative ≡ v
  unfolding refuse_if
  not_16 (Err r) e = refl
  not_16 (Ok tt) e = let least = least_motion_lem el e in rw (none, le-ltb el.mean_motion 20_000_000 least)

  elements : checked el ≡ constant_checked el
  unfolding checked constant_checked
  elements = rw (not_16 (checked_to7 el) refl)

  time : time_refused el t ≡ times_refused el.epoch t
  unfolding time_refused
  time =
      let size : nat_abs el.half_mean_motion_derivative ≡ 0 = ap nat_abs none in
      rw (size, or_never (times_refused el.epoch t))

  state : el.mean_anomaly < 2 ^ 32 → state_of el t ≡ constant_state el t
  unfolding state_of constant_state
  state held = λ i. state_with el t (count i) (anomaly held i)

pub constant_motion : ConstantMotion
unfolding placement checked_at constant_checked_at
constant_motion el t held none =
    record {
      anomaly_is = anomaly el t none held;
      revolution_is = count el t none;
      elements_are = elements el t none;
      time_is = time el t none;
      state_is = state el t none held;
      position_is = rw (elements el t none, time el t none, state el t none held);
    }
