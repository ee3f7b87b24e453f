-- When elements are refused: document 01, "When the build says no", numbers 1 to 7, 16 and 8, in their order. Assumes nothing.
use Rattle.std.specs.Prelude.{ℕ, ◌+◌, ◌*◌, ◌-◌, ◌^◌, Bool, true, false, not, ◌||◌, ltb, ℤ, nat_abs, Err, Ok, Result}
use Rattle.refusal.specs.declared.Refusal.{Refusal}
use Rattle.refusal.specs.declared.Refusal.TheVariants.{Eccentricity, SemiMajorAxis, PerigeeDistance, Inclination, MeanMotion, DriftRate, EpochRevolution, Time, MeanMotionDerivative}
use Rattle.time.specs.Range.{in_range}
use Rattle.elements.specs.declared.Elements.{Elements}

-- the first refusal stands
unfoldable pub refuse_if : Result Unit Refusal → Bool → Refusal → Result Unit Refusal
refuse_if (Err first) fails refusal = Err first
refuse_if (Ok tt) true refusal = Err refusal
refuse_if (Ok tt) false refusal = Ok tt

abbrev pub outside : ℕ → ℕ → ℕ → Bool
outside x low high = ltb x low || ltb high x

-- the perigee distance a·(1 - e) is below 6,478 km
unfoldable pub perigee_below : ℕ → ℕ → Bool
perigee_below a e = ltb (a * (10 ^ 7 - e)) (6_478_000 * 10 ^ 7)

abbrev pub rate_beyond : ℤ → Bool
rate_beyond rate = ltb 200_000 (nat_abs rate)

-- the least n with d: less 60·|d|, which 30 days can take off it, it is 20,000,000
abbrev pub least_motion : ℤ → ℕ
least_motion d = 20_000_000 + 60 * nat_abs d

-- d is beyond ±1,000,000, or n less 60·|d| is below 20,000,000
abbrev pub derivative_beyond : ℕ → ℤ → Bool
derivative_beyond n d = ltb 1_000_000 (nat_abs d) || ltb n (least_motion d)

-- 1 to 4, of an eccentricity, a semi-major axis and an inclination
abbrev pub checked_to4 : ℕ → ℕ → ℕ → Result Unit Refusal
checked_to4 e a i =
    -- 1
    let c1 = refuse_if (Ok tt) (ltb 9_000_000 e) Eccentricity in
    -- 2
    let c2 = refuse_if c1 (outside a 6_600_000 100_000_000) SemiMajorAxis in
    -- 3
    let c3 = refuse_if c2 (perigee_below a e) PerigeeDistance in
    -- 4
    refuse_if c3 (ltb (2 ^ 31) i) Inclination

-- 1 to 7
unfoldable pub checked_to7 : Elements → Result Unit Refusal
checked_to7 el =
    let c4 = checked_to4 el.eccentricity el.semi_major_axis el.inclination in
    -- 5
    let c5 = refuse_if c4 (outside el.mean_motion 20_000_000 1_700_000_000) MeanMotion in
    -- 6: either rate
    let c6 = refuse_if c5 (rate_beyond el.node_rate) DriftRate in
    let c6' = refuse_if c6 (rate_beyond el.perigee_rate) DriftRate in
    -- 7
    refuse_if c6' (ltb 99_999 el.epoch_revolution) EpochRevolution

-- then 16, then 8 of the epoch
unfoldable pub checked : Elements → Result Unit Refusal
checked el =
    let c16 = refuse_if (checked_to7 el) (derivative_beyond el.mean_motion el.half_mean_motion_derivative) MeanMotionDerivative in
    refuse_if c16 (not (in_range el.epoch)) Time
