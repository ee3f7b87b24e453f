-- What is known of a table that is accepted. Assumes nothing.
use mathlib.Core.Path.{◌≡◌, refl, ap, subst}
use Prim.Native.Nat.{ℕ, suc, ◌+◌, ◌*◌, ◌%◌, ◌≤◌, ◌<◌}
use native.Mathlib.Omega.{arith}
use mathlib.Core.Bool.{Bool, true, false, cond}
use mathlib.Core.List.{List}
use lib.Dec.{eqb, leb, ltb}
use lib.IntN.{ℤ}
use lib.ListN.{length, take}
use lib.Seq.{length-take-le}
use lib.Signed.{lt_z, le_z}
use borrow.Author.Tests.{leb-true, eqb-true, ltb-true, ltb-false}
use Rattle.integer.proofs.Tests.{and_true}
use Rattle.integer.proofs.Order.{before_parts, not_before_parts, up_to_parts, parts_up_to}
use Rattle.sequence.specs.Sequence.{leading}
use Rattle.sequence.proofs.Sequences.{leading_le, leading_holds, leading_fails, leading_mono}
use Rattle.elements.specs.Elements.{checked}
use Rattle.element_sets.specs.Table.{row_size, rows_in, set_at, epoch_at, accepts, follows, keeps_at, is_table, is_table_in, before, up_to, scanned, split_at}
use Rattle.element_sets.specs.declared.table.Split.{Split}
use Rattle.element_sets.specs.Contract.{OneAtMost}
use Rattle.std.specs.Prelude.{None, Some}

module _ (table : List ℕ) (is : is_table table ≡ true) where
  abbrev rows : ℕ
  rows = rows_in (length table)

  both : (eqb (length table % row_size) 0 ≡ true) × (eqb (leading (keeps_at table) rows) rows ≡ true)
  unfolding is_table
  both = and_true (eqb (length table % row_size) 0) (eqb (leading (keeps_at table) rows) rows) is

  pub whole : length table % row_size ≡ 0
  whole = eqb-true (length table % row_size) 0 both.0

  keeps : (k : ℕ) → k < rows → (accepts (checked (set_at table k)) ≡ true) × (follows table k ≡ true)
  unfolding keeps_at
  keeps k l = and_true (accepts (checked (set_at table k))) (follows table k) (leading_holds (keeps_at table) rows k (omega (arith, eqb-true (leading (keeps_at table) rows) rows both.1)))

  pub accepted_at : (k : ℕ) → k < rows → accepts (checked (set_at table k)) ≡ true
  accepted_at k l = (keeps k l).0

  pub rises_at : (k : ℕ) → suc k < rows → lt_z (epoch_at table k) (epoch_at table (suc k)) ≡ true
  unfolding follows
  rises_at k l = (keeps (suc k) l).1

  -- ---- the rows before a time, and those up to it
  module _ (time : ℤ) where
    pub few : up_to table time ≤ rows
    unfolding up_to
    few = leading_le (λ k. le_z (epoch_at table k) time) rows

    pub is_before : (k : ℕ) → k < before table time → lt_z (epoch_at table k) time ≡ true
    unfolding before
    is_before = leading_holds (λ k. lt_z (epoch_at table k) time) rows

    pub is_up_to : (k : ℕ) → k < up_to table time → le_z (epoch_at table k) time ≡ true
    unfolding up_to
    is_up_to = leading_holds (λ k. le_z (epoch_at table k) time) rows

    pub not_before : before table time < rows → lt_z (epoch_at table (before table time)) time ≡ false
    unfolding before
    not_before = leading_fails (λ k. lt_z (epoch_at table k) time) rows

    pub is_after : up_to table time < rows → le_z (epoch_at table (up_to table time)) time ≡ false
    unfolding up_to
    is_after = leading_fails (λ k. le_z (epoch_at table k) time) rows

    ordered : before table time ≤ up_to table time
    unfolding before up_to
    ordered =
        leading_mono (λ k. lt_z (epoch_at table k) time) (λ k. le_z (epoch_at table k) time) rows
        (λ k e. let h = before_parts (epoch_at table k) time e in parts_up_to (epoch_at table k) time (omega arith))

    -- no epoch stands twice
    one : (t : Bool) → ltb (before table time + 1) (up_to table time) ≡ t → up_to table time ≤ before table time + 1
    one false e = ltb-false (before table time + 1) (up_to table time) e
    one true e =
        let b = before table time in
        let l = ltb-true (b + 1) (up_to table time) e in
        let n = not_before_parts (epoch_at table b) time (not_before (omega (arith, few))) in
        let r = before_parts (epoch_at table b) (epoch_at table (suc b)) (rises_at b (omega (arith, few))) in
        let u = up_to_parts (epoch_at table (suc b)) time (is_up_to (suc b) (omega arith)) in
        absurd (omega arith)

    pub one_at_most : OneAtMost (before table time) (up_to table time)
    one_at_most = record { order = ordered; one = one (ltb (before table time + 1) (up_to table time)) refl }

-- ---- what going over a buffer's table told

pub record Told (buffer : List ℕ) (size : ℕ) (time : ℤ) (earlier later : ℕ) : Type 0 where
  pub held : size ≤ length buffer
  pub table : is_table (take size buffer) ≡ true
  pub earlier_is : before (take size buffer) time ≡ earlier
  pub later_is : up_to (take size buffer) time ≡ later

module _ (buffer : List ℕ) (size : ℕ) where
  pub in_buffer : is_table_in buffer size ≡ true → (size ≤ length buffer) × (is_table (take size buffer) ≡ true)
  unfolding is_table_in
  in_buffer e = let p = and_true (leb size (length buffer)) (is_table (take size buffer)) e in (leb-true size (length buffer) p.0, p.1)

  module _ (time : ℤ) (earlier later : ℕ) where
    by : (t : Bool) → is_table_in buffer size ≡ t → cond t (Some (split_at (before (take size buffer) time) (up_to (take size buffer) time))) None ≡ Some (split_at earlier later)
        → Told buffer size time earlier later
    by true is e =
        let p = in_buffer is in
        let same : split_at (before (take size buffer) time) (up_to (take size buffer) time) ≡ split_at earlier later = cc in
        record { held = p.0; table = p.1; earlier_is = ap (λ (s : Split). s.earlier) same; later_is = ap (λ (s : Split). s.up_to) same }
    by false is e = let z : ◌≡◌ {A = ℕ} 0 1 = cc in absurd (omega arith)

    pub told : scanned buffer size time ≡ Some (split_at earlier later) → Told buffer size time earlier later
    unfolding scanned
    told e = by (is_table_in buffer size) refl e

    module _ (t : Told buffer size time earlier later) where
      pub told_one : OneAtMost earlier later
      told_one = subst (λ (n : ℕ). OneAtMost earlier n) t.later_is (subst (λ (n : ℕ). OneAtMost n (up_to (take size buffer) time)) t.earlier_is (one_at_most (take size buffer) t.table time))

      pub told_rows : row_size * later ≤ size
      told_rows =
          let n = length-take-le size buffer t.held in
          let u = few (take size buffer) t.table time in
          omega (arith, t.later_is)
