-- A mean motion beyond what 5 allows. Assumes nothing.
use mathlib.Core.Path.{◌≡◌, refl}
use mathlib.Core.Bool.{Bool, true, false, ◌||◌}
use Prim.Native.Nat.{◌<◌}
use borrow.Author.Tests.{lt-ltb}
use lib.Dec.{ltb}
use Rattle.refusal.specs.declared.Refusal.{Refusal}
use Rattle.refusal.specs.declared.Refusal.TheVariants.{MeanMotion}
use Rattle.elements.specs.declared.Elements.{Elements}
use Rattle.elements.specs.Elements.{refuse_if, checked_to4, checked_to7, checked}
use Rattle.std.specs.Prelude.{Err, Ok, Result}

-- what is refused stays refused
refused_stays : (v : Result Unit Refusal) (r : Refusal) (t : Bool) (s : Refusal) → refuse_if (refuse_if v true r) t s ≡ refuse_if v true r
unfolding refuse_if
refused_stays (Ok tt) r t s = refl
refused_stays (Err q) r t s = refl

above : (t : Bool) → (t || true) ≡ true
above true = refl
above false = refl

-- 5, unless one of 1 to 4 comes before it, whatever the other elements are
pub too_fast : (el : Elements) → 1_700_000_000 < el.mean_motion → checked el ≡ refuse_if (checked_to4 el.eccentricity el.semi_major_axis el.inclination) true MeanMotion
unfolding checked checked_to7
too_fast el h =
    let v = checked_to4 el.eccentricity el.semi_major_axis el.inclination in
    rw (lt-ltb 1_700_000_000 el.mean_motion h, above (ltb el.mean_motion 20_000_000), refused_stays v MeanMotion _ _, refused_stays v MeanMotion _ _, refused_stays v MeanMotion _ _, refused_stays v MeanMotion _ _, refused_stays v MeanMotion _ _)
