-- Elements that two lines gave: they pass the checks, and their angles and epoch lie within their types. Assumes nothing.
use mathlib.Core.Path.{◌≡◌, refl, sym, ap}
use mathlib.Core.Bool.{Bool, true, false, not, ◌&&◌, cond}
use mathlib.Core.List.{List}
use Prim.Native.Nat.{ℕ, ◌^◌, ◌<◌, ◌+◌, ◌-◌}
use native.Mathlib.Omega.{arith}
use borrow.Author.Tests.{ltb-true}
use lib.Dec.{eqb, ltb}
use lib.IntN.{ℤ}
use Rattle.refusal.specs.declared.Refusal.{Refusal}
use Rattle.refusal.specs.declared.Refusal.TheVariants as refusal
use Rattle.integer.specs.Bound.{Within}
use Rattle.integer.proofs.Bounds.{within_pos, within_sub, within_more}
use Rattle.trig.proofs.Angles.{angle_below}
use Rattle.elements.specs.Elements.{checked}
use Rattle.elements.specs.declared.Elements.{Elements}
use Rattle.two_line_fields.specs.Fields.{value_of, first_bad}
use Rattle.two_line_fields.specs.Layout.{satellite_number}
use Rattle.two_line.specs.Lines.{begins, checksum_holds}
use Rattle.two_line.specs.Reading.{seconds_of, epoch_of, moved_back, taken_with, taken, judged, two_line_reading}
use Rattle.two_line.proofs.Epochs.{seconds_small}
use Rattle.refusal.specs.Refused.{refused_at}
use Rattle.refusal.specs.declared.RefusedAt.{RefusedAt}
use Rattle.std.specs.Prelude.{Err, Ok, Result}

-- ---- they pass the checks

pub record Passed (set el : Elements) : Type 0 where
  pub is : el ≡ set
  pub passes : checked el ≡ Ok tt

elements_in : Elements → Result Elements RefusedAt → Elements
elements_in none (Ok el) = el
elements_in none (Err refused) = none

by_verdict : (v : Result Unit Refusal) (set el : Elements) → checked set ≡ v → judged v set ≡ Ok el → Passed set el
unfolding elements_in
by_verdict (Ok tt) set el c e = let is : set ≡ el = ap (elements_in set) e in record { is = sym is; passes = rw is at c }
by_verdict (Err r) set el c e = let z : ◌≡◌ {A = ℕ} 0 1 = cc in absurd (omega arith)

-- no refusal was given ahead of them
by_test : (t : Bool) (r : Refusal) (place : ℕ) (next : Result Elements RefusedAt) (el : Elements) → cond (not t) (Err (refused_at r place)) next ≡ Ok el → next ≡ Ok el
by_test true r place next el e = e
by_test false r place next el e = let z : ◌≡◌ {A = ℕ} 0 1 = cc in absurd (omega arith)

module _ (first second : List ℕ) (axis : ℕ) (node_rate perigee_rate : ℤ) (el : Elements) where
  abbrev set : Elements
  set = taken first second axis node_rate perigee_rate

  pub taken_passed : two_line_reading first second axis node_rate perigee_rate ≡ Ok el → Passed set el
  unfolding two_line_reading
  taken_passed e =
      let e17 = by_test (begins 49 first && begins 50 second) refusal.Lines 0 _ el e in
      let e18 = by_test (checksum_holds first && checksum_holds second) refusal.Checksum 0 _ el e17 in
      let e19 = by_test (eqb (first_bad first second) 0) refusal.Field (first_bad first second) _ el e18 in
      let e20 = by_test (eqb (value_of first satellite_number) (value_of second satellite_number)) refusal.SatelliteNumbers 0 _ el e19 in
      by_verdict (checked set) set el refl e20

-- ---- what their types hold

moved_held : (angle amount : ℕ) → angle < 2 ^ 32 → moved_back angle amount < 2 ^ 32
unfolding moved_back
moved_held angle amount h = go (ltb angle amount) (ltb-true angle amount)
  where
    go : (t : Bool) → (t ≡ true → angle < amount) → cond t (angle + 2 ^ 32 - amount) (angle - amount) < 2 ^ 32
    go true y = let l = y refl in omega arith
    go false y = omega arith

pub record AnglesHeld (el : Elements) : Type 0 where
  pub inclination : el.inclination < 2 ^ 32
  pub node : el.node < 2 ^ 32
  pub argument_of_perigee : el.argument_of_perigee < 2 ^ 32
  pub mean_anomaly : el.mean_anomaly < 2 ^ 32
  pub epoch : Within (2 ^ 33) el.epoch

pub angles_held : (first second : List ℕ) (axis : ℕ) (node_rate perigee_rate : ℤ) → AnglesHeld (taken first second axis node_rate perigee_rate)
unfolding taken taken_with epoch_of
angles_held first second axis node_rate perigee_rate =
    record {
      inclination = angle_below _;
      node = angle_below _;
      argument_of_perigee = angle_below _;
      mean_anomaly = moved_held _ _ (angle_below _);
      epoch = within_more (within_sub (within_pos {a = 2 ^ 32} {n = seconds_of first} (omega (arith, seconds_small first))) (within_pos {a = 2 ^ 32} {n = 1_041_379_200} (omega arith))) (omega arith);
    }
