-- The order of the rows, and what finding gives by it. Assumes nothing.
use mathlib.Core.Path.{◌≡◌, refl, ap, subst}
use Prim.Native.Nat.{ℕ, ◌+◌, ◌≤◌, ◌<◌}
use native.Mathlib.Nat.{eq-or-lt_of_le}
use native.Mathlib.Omega.{arith}
use mathlib.Core.Logic.{⊎_elim}
use mathlib.Core.Bool.{Bool, true, false}
use mathlib.Core.List.{List}
use lib.Dec.{ltb}
use lib.IntN.{ℤ}
use lib.ListN.{length, take}
use lib.Seq.{length-take-le}
use lib.Signed.{le_z, lt_z}
use borrow.Author.Tests.{ltb-true, ltb-false}
use Rattle.integer.proofs.Order.{before_parts, up_to_parts, after_parts, parts_up_to, parts_after}
use Rattle.element_sets.specs.Table.{rows_in, epoch_at, is_table, is_table_in, up_to}
use Rattle.element_sets.specs.Theorems.{LatestUpTo, NoneUpTo, Earliest, FoundAnswers}
use Rattle.element_sets.proofs.Scans.{rising_among}
use Rattle.element_sets.proofs.Finds.{answer_says}
use Rattle.element_sets.proofs.Sound.{in_buffer, rises_at, few, is_up_to, is_after}
use Rattle.element_sets.specs.declared.lookup.Row.TheVariants.{Past, Forecast}
use Rattle.std.specs.Prelude.{Err, Ok}

module _ (table : List ℕ) (is : is_table table ≡ true) where
  abbrev rows : ℕ
  rows = rows_in (length table)

  pub rising : (i j : ℕ) → i < j → j < rows → lt_z (epoch_at table i) (epoch_at table j) ≡ true
  rising = rising_among table rows (rises_at table is)

  pub not_falling : (i j : ℕ) → i ≤ j → j < rows → le_z (epoch_at table i) (epoch_at table j) ≡ true
  not_falling i j l h =
      ⊎_elim
      (λ (e : i ≡ j). subst (λ (n : ℕ). le_z (epoch_at table i) (epoch_at table n) ≡ true) e (parts_up_to (epoch_at table i) (epoch_at table i) (omega arith)))
      (λ (m : i < j). let a = before_parts (epoch_at table i) (epoch_at table j) (rising i j m h) in parts_up_to (epoch_at table i) (epoch_at table j) (omega arith))
      (eq-or-lt_of_le {n = i} {m = j} l)

  module _ (time : ℤ) where
    -- a row behind those up to a time is after it
    pub behind_after : (j : ℕ) → up_to table time ≤ j → j < rows → le_z (epoch_at table j) time ≡ false
    behind_after j l h =
        let m = up_to table time in
        let a = after_parts (epoch_at table m) time (is_after table is time (omega arith)) in
        let b = up_to_parts (epoch_at table m) (epoch_at table j) (not_falling m j l h) in
        parts_after (epoch_at table j) time (omega arith)

    latest : (k : ℕ) → up_to table time ≡ k + 1 → LatestUpTo table time k
    latest k e =
        record {
          row = omega (arith, few table is time);
          up_to_time = is_up_to table is time k (omega arith);
          latest = λ j l u. of j l u (ltb k j) refl;
        }
      where
        of : (j : ℕ) → j < rows → le_z (epoch_at table j) time ≡ true → (t : Bool) → ltb k j ≡ t → le_z (epoch_at table j) (epoch_at table k) ≡ true
        of j l u true b =
            let a = after_parts (epoch_at table j) time (behind_after j (omega (arith, ltb-true k j b)) l) in
            let c = up_to_parts (epoch_at table j) time u in
            absurd (omega arith)
        of j l u false b = not_falling j k (ltb-false k j b) (omega (arith, few table is time))

    none : up_to table time ≤ 0 → NoneUpTo table time
    none h j l = behind_after j (omega arith) l

  earliest : (k : ℕ) → k ≡ 0 → 0 < rows → Earliest table k
  earliest k e h = record { row = omega arith; earliest = λ j l. not_falling k j (omega arith) l }

-- ---- what is found

rows_are : (buffer : List ℕ) (size : ℕ) → is_table_in buffer size ≡ true → rows_in (length (take size buffer)) ≡ rows_in size
rows_are buffer size t = ap rows_in (length-take-le size buffer (in_buffer buffer size t).0)

pub found_answers : FoundAnswers
found_answers past past_size forecast forecast_size time (Ok (Past k)) e =
    let q = answer_says past past_size forecast forecast_size time (Ok (Past k)) e in
    latest (take past_size past) (in_buffer past past_size q.tables.past_table).1 time k q.number
found_answers past past_size forecast forecast_size time (Ok (Forecast k)) e =
    let q = answer_says past past_size forecast forecast_size time (Ok (Forecast k)) e in
    let t = q.tables in (
      none (take past_size past) (in_buffer past past_size t.past_table).1 time q.none,
      earliest (take forecast_size forecast) (in_buffer forecast forecast_size t.forecast_table).1 k q.first (omega (arith, q.some, rows_are forecast forecast_size t.forecast_table)),
    )
found_answers past past_size forecast forecast_size time (Err refusal) e = λ r.
    let q = answer_says past past_size forecast forecast_size time (Err refusal) e r in
    let t = q.tables in (
      none (take past_size past) (in_buffer past past_size t.past_table).1 time q.none,
      omega (arith, q.empty, rows_are forecast forecast_size t.forecast_table),
    )
