-- When a time is refused: document 01, "When the build says no", number 8. Assumes nothing.
use Rattle.std.specs.Prelude.{Bool, not, ◌||◌, ◌&&◌, ltb, ℤ, nat_abs, ◌-ℤ◌, Result}
use Rattle.refusal.specs.declared.Refusal.TheVariants.{Time}
use Rattle.time.specs.Range.{in_range}
use Rattle.elements.specs.declared.Elements.{Elements}
use Rattle.elements.specs.Elements.{refuse_if, checked}
use Rattle.refusal.specs.declared.Refusal.{Refusal}

-- the epoch or the time out of range, or the two more than 31,622,400 s apart
unfoldable pub times_refused : ℤ → ℤ → Bool
times_refused epoch time = not (in_range epoch) || (not (in_range time) || ltb 31_622_400 (nat_abs (time -ℤ epoch)))

-- also where d is not 0, and they are more than 2,592,000 s apart
unfoldable pub time_refused : Elements → ℤ → Bool
time_refused el time =
    times_refused el.epoch time || (ltb 0 (nat_abs el.half_mean_motion_derivative) && ltb 2_592_000 (nat_abs (time -ℤ el.epoch)))

-- the elements, then the time
unfoldable pub checked_at : Elements → ℤ → Result Unit Refusal
checked_at el time = refuse_if (checked el) (time_refused el time) Time
