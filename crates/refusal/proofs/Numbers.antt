-- Laws of the refusals' numbers. Assumes nothing.
use mathlib.Core.Path.{◌≡◌, refl, sym, ap, ◌∙◌}
use mathlib.Core.Bool.{cond}
use Prim.Native.Nat.{ℕ, ◌≤◌}
use lib.Dec.{eqb}
use native.Mathlib.Omega.{arith}
use Rattle.refusal.specs.Numbers.{number_of}
use Rattle.refusal.specs.declared.Refusal.{Refusal}
use Rattle.refusal.specs.declared.Refusal.TheVariants.{Eccentricity, SemiMajorAxis, PerigeeDistance, Inclination, MeanMotion, DriftRate, EpochRevolution, Time, TelemetryLength, OutputLength, Trailer, Labels, Component, Figures, MeanMotionDerivative, Lines, Checksum, Field, SatelliteNumbers, Table, Room, NoSet, Day}

numbers : (r : Refusal) → (1 ≤ number_of r) × (number_of r ≡ 9 → ⊥)
numbers Eccentricity = (omega arith, omega arith)
numbers SemiMajorAxis = (omega arith, omega arith)
numbers PerigeeDistance = (omega arith, omega arith)
numbers Inclination = (omega arith, omega arith)
numbers MeanMotion = (omega arith, omega arith)
numbers DriftRate = (omega arith, omega arith)
numbers EpochRevolution = (omega arith, omega arith)
numbers Time = (omega arith, omega arith)
numbers TelemetryLength = (omega arith, omega arith)
numbers OutputLength = (omega arith, omega arith)
numbers Trailer = (omega arith, omega arith)
numbers Labels = (omega arith, omega arith)
numbers Component = (omega arith, omega arith)
numbers Figures = (omega arith, omega arith)
numbers MeanMotionDerivative = (omega arith, omega arith)
numbers Lines = (omega arith, omega arith)
numbers Checksum = (omega arith, omega arith)
numbers Field = (omega arith, omega arith)
numbers SatelliteNumbers = (omega arith, omega arith)
numbers Table = (omega arith, omega arith)
numbers Room = (omega arith, omega arith)
numbers NoSet = (omega arith, omega arith)
numbers Day = (omega arith, omega arith)

-- 0 is the status of what was accepted
pub never_0 : (r : Refusal) → 1 ≤ number_of r
never_0 r = (numbers r).0

-- 9 is not used
pub never_9 : (r : Refusal) → number_of r ≡ 9 → ⊥
never_9 r = (numbers r).1

named : ℕ → Refusal
named n =
    cond (eqb n 1) Eccentricity
    (cond (eqb n 2) SemiMajorAxis
    (cond (eqb n 3) PerigeeDistance
    (cond (eqb n 4) Inclination
    (cond (eqb n 5) MeanMotion
    (cond (eqb n 6) DriftRate
    (cond (eqb n 7) EpochRevolution
    (cond (eqb n 8) Time
    (cond (eqb n 10) TelemetryLength
    (cond (eqb n 11) OutputLength
    (cond (eqb n 12) Trailer
    (cond (eqb n 13) Labels
    (cond (eqb n 14) Component
    (cond (eqb n 15) Figures
    (cond (eqb n 16) MeanMotionDerivative
    (cond (eqb n 17) Lines
    (cond (eqb n 18) Checksum
    (cond (eqb n 19) Field
    (cond (eqb n 20) SatelliteNumbers
    (cond (eqb n 21) Table
    (cond (eqb n 22) Room
    (cond (eqb n 23) NoSet Day)))))))))))))))))))))

named_is : (r : Refusal) → named (number_of r) ≡ r
unfolding named
named_is Eccentricity = refl
named_is SemiMajorAxis = refl
named_is PerigeeDistance = refl
named_is Inclination = refl
named_is MeanMotion = refl
named_is DriftRate = refl
named_is EpochRevolution = refl
named_is Time = refl
named_is TelemetryLength = refl
named_is OutputLength = refl
named_is Trailer = refl
named_is Labels = refl
named_is Component = refl
named_is Figures = refl
named_is MeanMotionDerivative = refl
named_is Lines = refl
named_is Checksum = refl
named_is Field = refl
named_is SatelliteNumbers = refl
named_is Table = refl
named_is Room = refl
named_is NoSet = refl
named_is Day = refl

-- no two refusals have one number
pub one_each : (r s : Refusal) → number_of r ≡ number_of s → r ≡ s
one_each r s e = sym (named_is r) ∙ ap named e ∙ named_is s
