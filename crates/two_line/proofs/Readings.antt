-- The refusals of two lines in their order, and a mean motion past 32 bits. Assumes nothing.
use mathlib.Core.Path.{◌≡◌, refl}
use mathlib.Core.Bool.{true, false, ◌&&◌}
use mathlib.Core.List.{List}
use Prim.Native.Nat.{ℕ, min, ◌-◌, ◌^◌, ◌≤◌, ◌<◌}
use native.Mathlib.Decide.{dec_le}
use native.Mathlib.Nat.{lt_of_not-le}
use native.Mathlib.Omega.{arith}
use lib.Dec.{eqb}
use lib.IntN.{ℤ}
use Rattle.refusal.specs.declared.Refusal.TheVariants as refusal
use Rattle.elements.specs.Elements.{refuse_if, checked_to4, checked}
use Rattle.elements.specs.declared.Elements.{Elements}
use Rattle.elements.proofs.Fast.{too_fast}
use Rattle.two_line_fields.specs.Fields.{value_of, first_bad}
use Rattle.two_line_fields.specs.Layout.{satellite_number, mean_motion}
use Rattle.two_line.specs.Lines.{begins, checksum_holds}
use Rattle.two_line.specs.Reading.{taken_with, taken, judged, two_line_reading}
use Rattle.refusal.specs.Refused.{refused_at}
use Rattle.refusal.specs.declared.Refusal.{Refusal}
use Rattle.refusal.specs.declared.RefusedAt.{RefusedAt}
use Rattle.std.specs.Prelude.{Err, Ok, Result}

module _ (first second : List ℕ) (axis : ℕ) (node_rate perigee_rate : ℤ) where
  abbrev answer : Result Elements RefusedAt
  answer = two_line_reading first second axis node_rate perigee_rate

  -- ---- the mean motion, as far as 32 bits hold it

  abbrev answered : ℕ → Result Elements RefusedAt
  answered n = let el = taken_with n first second axis node_rate perigee_rate in judged (checked el) el

  refused_alike : (v : Result Unit Refusal) (el el' : Elements) → judged (refuse_if v true refusal.MeanMotion) el ≡ judged (refuse_if v true refusal.MeanMotion) el'
  unfolding refuse_if
  refused_alike (Ok tt) el el' = refl
  refused_alike (Err r) el el' = refl

  both_too_fast : (n m : ℕ) → 1_700_000_000 < n → 1_700_000_000 < m → answered n ≡ answered m
  unfolding taken_with
  both_too_fast n m h k =
      let el = taken_with n first second axis node_rate perigee_rate in
      let el' = taken_with m first second axis node_rate perigee_rate in
      rw (too_fast el h, too_fast el' k) (refused_alike (checked_to4 el.eccentricity axis el.inclination) el el')

  motion_held : (n : ℕ) → answered (min n (2 ^ 32 - 1)) ≡ answered n
  motion_held n = either (dec_le n (2 ^ 32 - 1))
    where
      either : Dec (n ≤ 2 ^ 32 - 1) → answered (min n (2 ^ 32 - 1)) ≡ answered n
      either (yes l) = let same : min n (2 ^ 32 - 1) ≡ n = omega arith in rw same
      either (no g) =
          let beyond = lt_of_not-le g in
          both_too_fast (min n (2 ^ 32 - 1)) n (omega arith) (omega arith)

  -- ---- each refusal, where those before it are not given

  pub lines_refused : (begins 49 first && begins 50 second) ≡ false → Err (refused_at refusal.Lines 0) ≡ answer
  unfolding two_line_reading
  lines_refused b = rw b

  module _ (b : (begins 49 first && begins 50 second) ≡ true) where
    pub checksum_refused : (checksum_holds first && checksum_holds second) ≡ false → Err (refused_at refusal.Checksum 0) ≡ answer
    unfolding two_line_reading
    checksum_refused s = rw (b, s)

    module _ (s : (checksum_holds first && checksum_holds second) ≡ true) where
      pub field_refused : eqb (first_bad first second) 0 ≡ false → Err (refused_at refusal.Field (first_bad first second)) ≡ answer
      unfolding two_line_reading
      field_refused f = rw (b, s, f)

      module _ (f : eqb (first_bad first second) 0 ≡ true) where
        pub numbers_refused : eqb (value_of first satellite_number) (value_of second satellite_number) ≡ false → Err (refused_at refusal.SatelliteNumbers 0) ≡ answer
        unfolding two_line_reading
        numbers_refused n = rw (b, s, f, n)

        pub elements_judged : eqb (value_of first satellite_number) (value_of second satellite_number) ≡ true → answered (min (value_of second mean_motion) (2 ^ 32 - 1)) ≡ answer
        unfolding two_line_reading taken
        elements_judged n = rw (b, s, f, n) (motion_held (value_of second mean_motion))
