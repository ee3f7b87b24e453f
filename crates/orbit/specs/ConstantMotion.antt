-- What the rules say of a constant mean motion, d = 0: every answer comes from w and the part turn alone. Assumes nothing.
use Rattle.std.specs.Prelude.{◌≡◌, true, false, not, ℕ, ◌+◌, ◌-◌, ◌^◌, ◌<◌, leb, ℤ, pos, ◌+ℤ◌, Result}
use Rattle.refusal.specs.declared.Refusal.TheVariants.{Time}
use Rattle.time.specs.Range.{in_range}
use Rattle.orbit.specs.declared.State.{State}
use Rattle.elements.specs.declared.Elements.{Elements}
use Rattle.elements.specs.Elements.{refuse_if, checked_to7, checked}
use Rattle.orbit.specs.Placement.{state_with, state_of, placement_of, placement}
use Rattle.orbit.specs.Revolution.{latitude_of, node_passages, revolution}
use Rattle.elements.specs.Time.{times_refused, time_refused}
use Rattle.orbit.specs.Turns.{elapsed_of, part_turn, linear_term, drift, mean_anomaly}
use Rattle.refusal.specs.declared.Refusal.{Refusal}

-- M0 plus the part turn
unfoldable pub anomaly_sum : Elements → ℤ → ℕ
anomaly_sum el t = el.mean_anomaly + part_turn el.mean_motion (elapsed_of el t)

-- M: where the sum reaches 2^32, subtract 2^32
unfoldable pub constant_anomaly : Elements → ℤ → ℕ
constant_anomaly el t = elim (leb (2 ^ 32) (anomaly_sum el t)) [ true ↦ anomaly_sum el t - 2 ^ 32 | false ↦ anomaly_sum el t ]

-- A is w·2^32 plus the part turn
unfoldable pub constant_revolution : Elements → ℤ → ℤ
constant_revolution el t =
    pos el.epoch_revolution +ℤ node_passages (latitude_of el) (linear_term el.mean_motion (elapsed_of el t) +ℤ drift el.perigee_rate (elapsed_of el t))

-- 1 to 7, then 8 for the epoch
unfoldable pub constant_checked : Elements → Result Unit Refusal
constant_checked el = refuse_if (checked_to7 el) (not (in_range el.epoch)) Time

-- then 8 for the time, which may be 31,622,400 s away
unfoldable pub constant_checked_at : Elements → ℤ → Result Unit Refusal
constant_checked_at el t = refuse_if (constant_checked el) (times_refused el.epoch t) Time

unfoldable pub constant_state : Elements → ℤ → State
constant_state el t = state_with el t (constant_revolution el t) (constant_anomaly el t)

pub record Constant (el : Elements) (t : ℤ) : Type 0 where
  pub anomaly_is : mean_anomaly el t ≡ constant_anomaly el t
  pub revolution_is : revolution el t ≡ constant_revolution el t
  pub elements_are : checked el ≡ constant_checked el
  pub time_is : time_refused el t ≡ times_refused el.epoch t
  pub state_is : state_of el t ≡ constant_state el t
  pub position_is : placement el t ≡ placement_of (constant_checked_at el t) (constant_state el t)

-- where d is 0, so it is (theorem `constant_motion`); the mean anomaly of the epoch is an angle
abbrev pub ConstantMotion : Type 0
ConstantMotion = (el : Elements) (t : ℤ) → el.mean_anomaly < 2 ^ 32 → el.half_mean_motion_derivative ≡ pos 0 → Constant el t
