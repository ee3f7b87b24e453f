-- What going over the rows of a table tells. Assumes nothing.
use mathlib.Core.Path.{◌≡◌, refl, sym, ◌∙◌, subst}
use Prim.Native.Nat.{ℕ, zero, suc, ◌+◌, ◌%◌, ◌≤◌, ◌<◌}
use native.Mathlib.Nat.{le_refl, eq-or-lt_of_le}
use native.Mathlib.Omega.{arith}
use mathlib.Core.Logic.{⊎_elim}
use mathlib.Core.Bool.{Bool, true, false, cond, ◌&&◌}
use mathlib.Core.List.{List}
use lib.Dec.{eqb}
use lib.IntN.{ℤ}
use lib.ListN.{length, take}
use lib.Seq.{take-length, length-take-le}
use lib.Signed.{lt_z, le_z}
use borrow.Author.Tests.{le-leb, lt-leb, eq-eqb, ne_eqb}
use Rattle.integer.proofs.Tests.{and_true}
use Rattle.integer.proofs.Order.{before_parts, up_to_parts, parts_before, parts_up_to}
use Rattle.sequence.specs.Sequence.{leading}
use Rattle.sequence.proofs.Sequences.{leading_all, leading_stops}
use Rattle.elements.specs.Elements.{checked}
use Rattle.element_sets.specs.Table.{row_size, rows_in, set_at, epoch_at, accepts, follows, keeps_at, is_table, is_table_in, before, up_to, scanned, split_at}
use Rattle.std.specs.Prelude.{None, Some}

-- ---- a table that is all of its buffer

module _ (table : List ℕ) where
  abbrev rows : ℕ
  rows = rows_in (length table)

  pub table_sound : length table % row_size ≡ 0 → ((k : ℕ) → k < rows → keeps_at table k ≡ true) → is_table table ≡ true
  unfolding is_table
  table_sound whole keeps = rw (eq-eqb (length table % row_size) 0 whole, leading_all (keeps_at table) rows keeps, eq-eqb rows rows refl)

  table_broken : (k : ℕ) → ((j : ℕ) → j < k → keeps_at table j ≡ true) → keeps_at table k ≡ false → k < rows → is_table table ≡ false
  unfolding is_table
  table_broken k keeps breaks l =
      rw (leading_stops (keeps_at table) k rows keeps breaks l, ne_eqb k rows (λ (e : k ≡ rows). omega arith)) (no (eqb (length table % row_size) 0))
    where
      no : (t : Bool) → (t && false) ≡ false
      no true = refl
      no false = refl

  module _ (time : ℤ) where
    whole_scanned : scanned table (length table) time ≡ cond (is_table table) (Some (split_at (before table time) (up_to table time))) None
    unfolding scanned is_table_in
    whole_scanned = rw (le-leb (length table) (length table) (le_refl (length table)), take-length table)

    pub scan_broken : (k : ℕ) → ((j : ℕ) → j < k → keeps_at table j ≡ true) → keeps_at table k ≡ false → k < rows → None ≡ scanned table (length table) time
    scan_broken k keeps breaks l = sym (whole_scanned ∙ rw (table_broken k keeps breaks l))

    -- the counts after all rows, k in number
    pub scan_sound : {k earlier later : ℕ} {t : ℤ} → length table % row_size ≡ 0 → k ≡ rows → t ≡ time → ((j : ℕ) → j < k → keeps_at table j ≡ true)
        → earlier ≡ leading (λ j. lt_z (epoch_at table j) t) k → later ≡ leading (λ j. le_z (epoch_at table j) t) k
        → Some (split_at earlier later) ≡ scanned table (length table) time
    unfolding before up_to
    scan_sound whole all is keeps e f =
        (λ i. Some (split_at ((e ∙ (λ j. leading (λ x. lt_z (epoch_at table x) (is j)) (all j))) i) ((f ∙ (λ j. leading (λ x. le_z (epoch_at table x) (is j)) (all j))) i)))
        ∙ sym (whole_scanned ∙ rw (table_sound whole (subst (λ (n : ℕ). (j : ℕ) → j < n → keeps_at table j ≡ true) all keeps)))

-- ---- a row behind others, all of which keep the rules

-- each epoch is after those of the rows ahead
pub rising_among : (table : List ℕ) (n : ℕ) → ((k : ℕ) → suc k < n → lt_z (epoch_at table k) (epoch_at table (suc k)) ≡ true)
    → (i j : ℕ) → i < j → j < n → lt_z (epoch_at table i) (epoch_at table j) ≡ true
rising_among table n rises i zero l h = absurd (omega arith)
rising_among table n rises i (suc j) l h =
    ⊎_elim
    (λ (e : i ≡ j). subst (λ (m : ℕ). lt_z (epoch_at table m) (epoch_at table (suc j)) ≡ true) (sym e) (rises j h))
    (λ (m : i < j). let a = before_parts (epoch_at table i) (epoch_at table j) (rising_among table n rises i j m (omega arith)) in let b = before_parts (epoch_at table j) (epoch_at table (suc j)) (rises j h) in parts_before (epoch_at table i) (epoch_at table (suc j)) (omega arith))
    (eq-or-lt_of_le {n = i} {m = j} (omega arith))

module _ (table : List ℕ) (time : ℤ) (k : ℕ) (keeps : (j : ℕ) → j < k + 1 → keeps_at table j ≡ true) where
  rises : (j : ℕ) → suc j < k + 1 → lt_z (epoch_at table j) (epoch_at table (suc j)) ≡ true
  unfolding keeps_at follows
  rises j l = (and_true (accepts (checked (set_at table (suc j)))) (lt_z (epoch_at table j) (epoch_at table (suc j))) (keeps (suc j) l)).1

  -- a row that passes a test which those with earlier epochs pass too
  all_ahead : (p : ℤ → Bool) → ((a b : ℤ) → lt_z a b ≡ true → p b ≡ true → p a ≡ true) → p (epoch_at table k) ≡ true → leading (λ j. p (epoch_at table j)) (k + 1) ≡ k + 1
  all_ahead p back h =
      leading_all (λ j. p (epoch_at table j)) (k + 1)
      (λ j l.
      ⊎_elim
      (λ (e : j ≡ k). subst (λ (m : ℕ). p (epoch_at table m) ≡ true) (sym e) h)
      (λ (m : j < k). back (epoch_at table j) (epoch_at table k) (rising_among table (k + 1) rises j k m (omega arith)) h)
      (eq-or-lt_of_le {n = j} {m = k} (omega arith)))

  pub all_before : lt_z (epoch_at table k) time ≡ true → leading (λ j. lt_z (epoch_at table j) time) (k + 1) ≡ k + 1
  all_before =
      all_ahead (λ e. lt_z e time)
      (λ a b l h. let x = before_parts a b l in let y = before_parts b time h in parts_before a time (omega arith))

  pub all_up_to : le_z (epoch_at table k) time ≡ true → leading (λ j. le_z (epoch_at table j) time) (k + 1) ≡ k + 1
  all_up_to =
      all_ahead (λ e. le_z e time)
      (λ a b l h. let x = before_parts a b l in let y = up_to_parts b time h in parts_up_to a time (omega arith))

-- ---- the first bytes of a buffer

module _ (buffer : List ℕ) (size : ℕ) (time : ℤ) where
  pub scan_beyond : length buffer < size → None ≡ scanned buffer size time
  unfolding scanned is_table_in
  scan_beyond h = rw (lt-leb size (length buffer) h)

  module _ (h : size ≤ length buffer) where
    pub scan_ragged : (size % row_size ≡ 0 → ⊥) → None ≡ scanned buffer size time
    unfolding scanned is_table_in is_table
    scan_ragged ragged = rw (le-leb size (length buffer) h, length-take-le size buffer h, ne_eqb (size % row_size) 0 ragged)

    pub scan_part : scanned (take size buffer) (length (take size buffer)) time ≡ scanned buffer size time
    unfolding scanned is_table_in
    scan_part = whole_scanned (take size buffer) time ∙ rw (le-leb size (length buffer) h)
