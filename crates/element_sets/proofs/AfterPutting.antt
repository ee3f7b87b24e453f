-- What finding gives in a table that putting made. Assumes nothing.
use mathlib.Core.Path.{◌≡◌, refl, sym, ap, ◌∙◌, subst}
use Prim.Native.Nat.{ℕ, ◌+◌, ◌*◌, ◌-◌, ◌≤◌, ◌<◌}
use native.Mathlib.Nat.{eq-or-lt_of_le}
use native.Mathlib.Omega.{arith}
use mathlib.Core.Logic.{⊎_elim}
use mathlib.Core.Bool.{Bool, true, false, ◌&&◌}
use mathlib.Core.List.{List, ◌++◌}
use lib.Dec.{T, ltb}
use lib.IntN.{ℤ}
use lib.ListN.{length, take, drop, length-append}
use lib.Seq.{sets-eq, length-sets, length-take-le, take_at, take-take}
use lib.Signed.{le_z, lt_z}
use borrow.Author.Tests.{ltb-true, ltb-false, lt-ltb, le-ltb, le-leb}
use Rattle.integer.proofs.Tests.{and_true}
use Rattle.integer.proofs.Order.{before_parts, up_to_parts, after_parts, parts_before, parts_up_to}
use Rattle.sequence.specs.Sequence.{leading}
use Rattle.sequence.proofs.Sequences.{leading_all, leading_stops, leading_mono}
use Rattle.elements.specs.Contract.{Held}
use Rattle.elements.specs.declared.Elements.{Elements}
use Rattle.elements_buffer.specs.Buffer.{elements_bytes}
use Rattle.element_sets.specs.Table.{row_size, rows_in, row_at, set_at, epoch_at, is_table, is_table_in, before, up_to}
use Rattle.element_sets.specs.Finding.{finding}
use Rattle.element_sets.specs.Putting.{end_with, with_set}
use Rattle.element_sets.specs.Theorems.{PutInto, InOrder, FoundRow, NewSetFound, between, OthersFound, PastGrown, PastKept, ForecastKept}
use Rattle.element_sets.proofs.Sound.{few, is_before, not_before, is_up_to, is_after}
use Rattle.element_sets.proofs.Rising.{behind_after}
use Rattle.element_sets.proofs.Made.{earlier, later, made, order, bound, made_length, made_rows, row_before, row_new, row_after, set_before, set_new, set_after, each, made_table, in_table}
use Rattle.element_sets.proofs.Finds.{FoundPast, FoundForecast, answer_says}
use Rattle.element_sets.proofs.Puts.{PutSays, put_says}
use Rattle.element_sets.specs.declared.lookup.Row.TheVariants.{Past, Forecast}
use Rattle.std.specs.Prelude.{Ok}

-- the rows up to a time, where the first of the others is after it
up_to_is : (table : List ℕ) (time : ℤ) (m : ℕ) → m ≤ rows_in (length table) → ((k : ℕ) → k < m → le_z (epoch_at table k) time ≡ true)
    → (m < rows_in (length table) → le_z (epoch_at table m) time ≡ false) → up_to table time ≡ m
unfolding up_to
up_to_is table time m l holds stops =
    ⊎_elim
    (λ (e : m ≡ rows_in (length table)). ap (leading (λ k. le_z (epoch_at table k) time)) (sym e) ∙ leading_all (λ k. le_z (epoch_at table k) time) m holds)
    (λ (h : m < rows_in (length table)). leading_stops (λ k. le_z (epoch_at table k) time) m (rows_in (length table)) holds (stops h) h)
    (eq-or-lt_of_le {n = m} {m = rows_in (length table)} l)

-- a row of the past that is the last up to the time
found_at : (past : List ℕ) (past_size : ℕ) (forecast : List ℕ) (forecast_size : ℕ) (time : ℤ) (k : ℕ) → is_table_in past past_size ≡ true
    → is_table_in forecast forecast_size ≡ true → up_to (take past_size past) time ≡ k + 1 → finding past past_size forecast forecast_size time ≡ Ok (Past k)
unfolding finding
found_at past past_size forecast forecast_size time k p f e =
    let first : k + 1 - 1 ≡ k = omega arith in
    rw (p, f, e, lt-ltb 0 (k + 1) (omega arith), first)

-- the first row of the forecast, where no row of the past is up to the time
foretold_at : (past : List ℕ) (past_size : ℕ) (forecast : List ℕ) (forecast_size : ℕ) (time : ℤ) (k : ℕ) → k ≡ 0 → is_table_in past past_size ≡ true
    → is_table_in forecast forecast_size ≡ true → up_to (take past_size past) time ≤ 0 → 0 < rows_in forecast_size → finding past past_size forecast forecast_size time ≡ Ok (Forecast k)
unfolding finding
foretold_at past past_size forecast forecast_size time k z p f none some =
    rw (p, f, le-ltb 0 (up_to (take past_size past) time) none, lt-ltb 0 (rows_in forecast_size) some, z)

-- ---- a set and a table

module _ (t : List ℕ) (is : is_table t ≡ true) (el : Elements) (held : Held el) (time : ℤ) where
  abbrev new : List ℕ
  new = made t is el

  abbrev b : ℕ
  b = earlier t is el

  abbrev u : ℕ
  u = later t is el

  abbrev m : ℕ
  m = up_to t time

  epoch_new : le_z (epoch_at new b) time ≡ le_z el.epoch time
  epoch_new = ap (λ (s : Elements). le_z s.epoch time) (set_new t is el held)

  -- the new set is up to the time
  module _ (h : le_z el.epoch time ≡ true) where
    ahead_of : u ≤ m
    unfolding up_to
    ahead_of =
        leading_mono (λ k. le_z (epoch_at t k) el.epoch) (λ k. le_z (epoch_at t k) time) (rows_in (length t))
        (λ k e. let p = up_to_parts (epoch_at t k) el.epoch e in let q = up_to_parts el.epoch time h in parts_up_to (epoch_at t k) time (omega arith))

    pub with_new : up_to new time ≡ b + 1 + (m - u)
    with_new =
        up_to_is new time (b + 1 + (m - u)) (omega (arith, made_rows t is el, few t is time, ahead_of))
        (λ k l.
        each t is el (λ k. k < b + 1 + (m - u) → le_z (epoch_at new k) time ≡ true)
        (λ k e n. let p = before_parts (epoch_at t k) el.epoch (is_before t is el.epoch k e) in let q = up_to_parts el.epoch time h in ap (λ (s : Elements). le_z s.epoch time) (set_before t is el k e) ∙ parts_up_to (epoch_at t k) time (omega arith))
        (λ n. epoch_new ∙ h)
        (λ j e n. ap (λ (s : Elements). le_z s.epoch time) (set_after t is el j) ∙ is_up_to t is time (u + j) (omega arith))
        k (omega (arith, made_rows t is el, few t is time, ahead_of)) l)
        (λ l.
        let at : u + (m - u) ≡ m = omega (arith, ahead_of) in
        ap (λ (s : Elements). le_z s.epoch time) (set_after t is el (m - u) ∙ ap (set_at t) at) ∙ is_after t is time (omega (arith, made_rows t is el, ahead_of)))

  -- the new set is after the time
  module _ (h : le_z el.epoch time ≡ false) where
    pub ahead_all : m ≤ b
    unfolding before up_to
    ahead_all =
        leading_mono (λ k. le_z (epoch_at t k) time) (λ k. lt_z (epoch_at t k) el.epoch) (rows_in (length t))
        (λ k e. let p = up_to_parts (epoch_at t k) time e in let q = after_parts el.epoch time h in parts_before (epoch_at t k) el.epoch (omega arith))

    pub without_new : up_to new time ≡ m
    without_new =
        up_to_is new time m (omega (arith, made_rows t is el, ahead_all))
        (λ k l. ap (λ (s : Elements). le_z s.epoch time) (set_before t is el k (omega (arith, ahead_all))) ∙ is_up_to t is time k l)
        (λ l.
        ⊎_elim
        (λ (e : m ≡ b). ap (λ (k : ℕ). le_z (epoch_at new k) time) e ∙ epoch_new ∙ h)
        (λ (n : m < b). ap (λ (s : Elements). le_z s.epoch time) (set_before t is el m n) ∙ is_after t is time (omega (arith, order t is el, few t is el.epoch)))
        (eq-or-lt_of_le {n = m} {m = b} ahead_all))

-- ---- a set put into a buffer

module _ (el : Elements) (buffer : List ℕ) (size end : ℕ) (into : PutInto el buffer size end) where
  abbrev held : Held el
  held = into.held

  says : PutSays el buffer size end
  says = put_says el buffer size end into.put

  abbrev table : List ℕ
  table = take size buffer

  abbrev sound : is_table table ≡ true
  sound = says.table

  abbrev after : List ℕ
  after = with_set el buffer size

  table_length : length table ≡ size
  table_length = length-take-le size buffer says.held

  new_table : is_table (made table sound el) ≡ true
  new_table = made_table table sound el held says.passed

  new_length : length (made table sound el) ≡ end
  new_length = made_length table sound el ∙ ap (end_with (before table el.epoch) (up_to table el.epoch)) table_length ∙ says.end_is

  after_is : take end after ≡ made table sound el
  unfolding with_set
  after_is =
      let b = row_size * before table el.epoch in
      let rest = elements_bytes el ++ drop (row_size * up_to table el.epoch) table in
      let n = new_length in
      let f : take b buffer ≡ take b table = sym (take-take b size buffer (omega (arith, order table sound el, bound table sound el, table_length))) in
      let l = length-append (take b table) rest in
      let k = length-take-le b table (omega (arith, order table sound el, bound table sound el)) in
      ap (take end) (sets-eq rest buffer b (omega (arith, l, k, n, says.room)) ∙ ap (λ (x : List ℕ). x ++ rest ++ drop (b + length rest) buffer) f)
      ∙ take_at (take b table ++ rest) (drop (b + length rest) buffer) end n

  after_fits : end ≤ length after
  unfolding with_set
  after_fits =
      let n = length-sets buffer (row_size * before table el.epoch) (elements_bytes el ++ drop (row_size * up_to table el.epoch) table) in
      omega (arith, n, says.room)

  after_table : is_table_in after end ≡ true
  unfolding is_table_in
  after_table = rw (le-leb end (length after) after_fits, after_is, new_table)

  -- the rows in their buffers
  row_after_is : (k : ℕ) → k < rows_in (length (made table sound el)) → row_at after k ≡ row_at (made table sound el) k
  row_after_is k l = in_table after end k after_fits (omega (arith, new_length)) ∙ ap (λ (x : List ℕ). row_at x k) after_is

  row_is : (k : ℕ) → k < rows_in (length table) → row_at table k ≡ row_at buffer k
  row_is k l = sym (in_table buffer size k says.held (omega (arith, table_length)))

  module _ (forecast : List ℕ) (forecast_size : ℕ) (time : ℤ) (f : is_table_in forecast forecast_size ≡ true) where
    -- the row of a number that is found in the table made
    row_found : (k : ℕ) (row : List ℕ) → up_to (made table sound el) time ≡ k + 1 → row_at (made table sound el) k ≡ row → FoundRow after end forecast forecast_size time row
    row_found k row e r =
        record {
          number = k;
          found = found_at after end forecast forecast_size time k after_table f (ap (λ (x : List ℕ). up_to x time) after_is ∙ e);
          is = row_after_is k (omega (arith, e, few (made table sound el) new_table time)) ∙ r;
        }

    -- no row between the new set and the time
    new_found : le_z el.epoch time ≡ true → up_to table time ≤ up_to table el.epoch → FoundRow after end forecast forecast_size time (elements_bytes el)
    new_found h l =
        row_found (before table el.epoch) (elements_bytes el) (with_new table sound el held time h ∙ omega arith) (row_new table sound el)

  -- ---- a row that was found before
  module _ (forecast : List ℕ) (forecast_size : ℕ) (time : ℤ) (k : ℕ) (e : finding buffer size forecast forecast_size time ≡ Ok (Past k)) where
    found : FoundPast buffer size forecast forecast_size time k
    found = answer_says buffer size forecast forecast_size time (Ok (Past k)) e

    same_row : row_at table k ≡ row_at buffer k
    same_row = row_is k (omega (arith, found.number, few table sound time))

    -- the new set is after the time
    kept_ahead : le_z el.epoch time ≡ false → FoundRow after end forecast forecast_size time (row_at buffer k)
    kept_ahead h =
        row_found forecast forecast_size time found.tables.forecast_table k (row_at buffer k)
        (without_new table sound el held time h ∙ found.number)
        (row_before table sound el k (omega (arith, ahead_all table sound el held time h, found.number)) ∙ same_row)

    -- the new set is ahead of the row
    kept_behind : le_z el.epoch time ≡ true → up_to table el.epoch ≤ k → FoundRow after end forecast forecast_size time (row_at buffer k)
    kept_behind h l =
        let u = up_to table el.epoch in
        let at : u + (k - u) ≡ k = omega arith in
        row_found forecast forecast_size time found.tables.forecast_table (before table el.epoch + 1 + (k - u)) (row_at buffer k)
        (with_new table sound el held time h ∙ omega (arith, found.number))
        (row_after table sound el (k - u) ∙ ap (row_at table) at ∙ same_row)

    kept_row : (r t : Bool) → le_z (epoch_at table k) el.epoch ≡ r → le_z el.epoch time ≡ t → (r && t) ≡ false → FoundRow after end forecast forecast_size time (row_at buffer k)
    kept_row r false p q n = kept_ahead q
    kept_row true true p q n = absurd (subst T n tt)
    kept_row false true p q n = kept_behind q (not_up_to (ltb k (up_to table el.epoch)) refl)
      where
        not_up_to : (t : Bool) → ltb k (up_to table el.epoch) ≡ t → up_to table el.epoch ≤ k
        not_up_to false e = ltb-false k (up_to table el.epoch) e
        not_up_to true e = absurd (subst T (sym (is_up_to table sound el.epoch k (ltb-true k (up_to table el.epoch) e)) ∙ p) tt)

    new_row : le_z (epoch_at table k) el.epoch ≡ true → le_z el.epoch time ≡ true → FoundRow after end forecast forecast_size time (elements_bytes el)
    new_row p q = new_found forecast forecast_size time found.tables.forecast_table q (up_to_time (ltb k (up_to table el.epoch)) refl)
      where
        up_to_time : (t : Bool) → ltb k (up_to table el.epoch) ≡ t → up_to table time ≤ up_to table el.epoch
        up_to_time true e = omega (arith, ltb-true k (up_to table el.epoch) e, found.number)
        up_to_time false e =
            absurd (subst T (sym p ∙ behind_after table sound el.epoch k (ltb-false k (up_to table el.epoch) e) (omega (arith, found.number, few table sound time))) tt)

  -- ---- a row of the forecast that was found before, with the table as the past
  module _ (forecast : List ℕ) (forecast_size : ℕ) (time : ℤ) (k : ℕ) (e : finding buffer size forecast forecast_size time ≡ Ok (Forecast k)) where
    foretold : FoundForecast buffer size forecast forecast_size time k
    foretold = answer_says buffer size forecast forecast_size time (Ok (Forecast k)) e

    still_foretold : le_z el.epoch time ≡ false → finding after end forecast forecast_size time ≡ Ok (Forecast k)
    still_foretold h =
        foretold_at after end forecast forecast_size time k foretold.first after_table foretold.tables.forecast_table
        (omega (arith, ap (λ (x : List ℕ). up_to x time) after_is ∙ without_new table sound el held time h, foretold.none))
        foretold.some

    new_instead : le_z el.epoch time ≡ true → FoundRow after end forecast forecast_size time (elements_bytes el)
    new_instead h = new_found forecast forecast_size time foretold.tables.forecast_table h (omega (arith, foretold.none))

  -- ---- with the table as the forecast
  module _ (past : List ℕ) (past_size : ℕ) (time : ℤ) (k : ℕ) where
    still_past : finding past past_size buffer size time ≡ Ok (Past k) → finding past past_size after end time ≡ Ok (Past k)
    still_past e =
        let q = answer_says past past_size buffer size time (Ok (Past k)) e in
        found_at past past_size after end time k q.tables.past_table after_table q.number

    module _ (e : finding past past_size buffer size time ≡ Ok (Forecast k)) where
      first : FoundForecast past past_size buffer size time k
      first = answer_says past past_size buffer size time (Ok (Forecast k)) e

      still_first : finding past past_size after end time ≡ Ok (Forecast k)
      still_first =
          foretold_at past past_size after end time k first.first first.tables.past_table after_table first.none (omega (arith, says.end_is))

      there : 0 < rows_in (length table)
      there = omega (arith, first.some, table_length)

      -- the new set is behind the row
      row_kept : lt_z (epoch_at table k) el.epoch ≡ true → row_at after k ≡ row_at buffer k
      row_kept h =
          row_after_is k (omega (arith, made_rows table sound el, first.first))
          ∙ row_before table sound el k (subst (λ (j : ℕ). j < before table el.epoch) (sym first.first) (ahead (ltb 0 (before table el.epoch)) refl))
          ∙ row_is k (omega (arith, first.first, there))
        where
          not_ahead : before table el.epoch ≡ 0 → lt_z (epoch_at table k) el.epoch ≡ false
          not_ahead z = subst (λ (j : ℕ). lt_z (epoch_at table j) el.epoch ≡ false) (z ∙ sym first.first) (not_before table sound el.epoch (omega (arith, there)))

          ahead : (t : Bool) → ltb 0 (before table el.epoch) ≡ t → 0 < before table el.epoch
          ahead true p = ltb-true 0 (before table el.epoch) p
          ahead false p = absurd (subst T (sym h ∙ not_ahead (omega (arith, ltb-false 0 (before table el.epoch) p))) tt)

      -- it is not
      row_new_first : lt_z (epoch_at table k) el.epoch ≡ false → row_at after k ≡ elements_bytes el
      row_new_first h =
          let b : k ≡ before table el.epoch = first.first ∙ sym (none (ltb 0 (before table el.epoch)) refl) in
          row_after_is k (omega (arith, made_rows table sound el, first.first)) ∙ ap (row_at (made table sound el)) b ∙ row_new table sound el
        where
          none : (t : Bool) → ltb 0 (before table el.epoch) ≡ t → before table el.epoch ≡ 0
          none false p = omega (arith, ltb-false 0 (before table el.epoch) p)
          none true p =
              absurd (subst T (sym (subst (λ (j : ℕ). lt_z (epoch_at table j) el.epoch ≡ true) (sym first.first) (is_before table sound el.epoch 0 (ltb-true 0 (before table el.epoch) p))) ∙ h) tt)

pub in_order : InOrder
in_order = after_table

pub new_set_found : NewSetFound
new_set_found el buffer size end into forecast forecast_size f =
    new_found el buffer size end into forecast forecast_size el.epoch f (parts_up_to el.epoch el.epoch (omega arith)) (omega arith)

pub others_found : OthersFound
unfolding between
others_found el buffer size end into forecast forecast_size time k e =
    let table = take size buffer in (
      (λ n. kept_row el buffer size end into forecast forecast_size time k e (le_z (epoch_at table k) el.epoch) (le_z el.epoch time) refl refl n),
      (λ y. let p = and_true (le_z (epoch_at table k) el.epoch) (le_z el.epoch time) y in new_row el buffer size end into forecast forecast_size time k e p.0 p.1),
    )

pub past_grown : PastGrown
past_grown el buffer size end into forecast forecast_size time k e =
    (still_foretold el buffer size end into forecast forecast_size time k e, new_instead el buffer size end into forecast forecast_size time k e)

pub past_kept : PastKept
past_kept = still_past

pub forecast_kept : ForecastKept
forecast_kept el buffer size end into past past_size time k e = (
  still_first el buffer size end into past past_size time k e,
  row_kept el buffer size end into past past_size time k e,
  row_new_first el buffer size end into past past_size time k e,
)
