-- What finding answers, case by case. Assumes nothing.
use mathlib.Core.Path.{◌≡◌, refl, sym, ◌∙◌, subst}
use Prim.Native.Nat.{ℕ, ◌+◌, ◌*◌, ◌-◌, ◌≤◌, ◌<◌}
use native.Mathlib.Omega.{arith}
use mathlib.Core.Bool.{Bool, true, false, cond, ◌&&◌}
use mathlib.Core.List.{List}
use lib.Dec.{ltb}
use lib.IntN.{ℤ}
use lib.ListN.{length, take}
use lib.Seq.{length-take-le}
use borrow.Author.Tests.{lt-ltb, le-ltb, ltb-true, ltb-false, le-leb}
use Rattle.refusal.specs.declared.Refusal.TheVariants.{Table, NoSet}
use Rattle.element_sets.specs.Table.{row_size, rows_in, is_table_in, up_to, scanned, split_at}
use Rattle.element_sets.specs.Finding.{found_among, finding}
use Rattle.element_sets.proofs.Sound.{told, in_buffer, few}
use Rattle.element_sets.specs.declared.lookup.Row.TheVariants.{Past, Forecast}
use Rattle.element_sets.specs.declared.lookup.Row.{Row}
use Rattle.refusal.specs.declared.Refusal.{Refusal}
use Rattle.std.specs.Prelude.{Err, Ok, Result, Some}

module _ (past : List ℕ) (past_size : ℕ) (forecast : List ℕ) (forecast_size : ℕ) (time : ℤ) where
  abbrev answer : Result Row Refusal
  answer = finding past past_size forecast forecast_size time

  sound : (buffer : List ℕ) (size : ℕ) {earlier later : ℕ} → scanned buffer size time ≡ Some (split_at earlier later) → is_table_in buffer size ≡ true
  unfolding is_table_in
  sound buffer size {earlier} {later} e = let t = told buffer size time earlier later e in rw (le-leb size (length buffer) t.held, t.table)

  module _ {a b c d : ℕ} (e : scanned past past_size time ≡ Some (split_at a b)) (f : scanned forecast forecast_size time ≡ Some (split_at c d)) where
    both_sound : answer ≡ found_among b (rows_in forecast_size)
    unfolding finding
    both_sound = rw (sound past past_size e, sound forecast forecast_size f, (told past past_size time a b e).later_is)

    pub in_past : 0 < b → Ok (Past (b - 1)) ≡ answer
    in_past h = sym (both_sound ∙ rw (lt-ltb 0 b h))

    pub in_forecast : b ≤ 0 → row_size ≤ forecast_size → Ok (Forecast 0) ≡ answer
    in_forecast h k = sym (both_sound ∙ rw (le-ltb 0 b h, lt-ltb 0 (rows_in forecast_size) (omega arith)))

  -- ---- what an answer tells

  pub record Tables : Type 0 where
    pub past_table : is_table_in past past_size ≡ true
    pub forecast_table : is_table_in forecast forecast_size ≡ true

  pub record FoundPast (k : ℕ) : Type 0 where
    pub tables : Tables
    pub number : up_to (take past_size past) time ≡ k + 1

  pub record FoundForecast (k : ℕ) : Type 0 where
    pub tables : Tables
    pub first : k ≡ 0
    pub none : up_to (take past_size past) time ≤ 0
    pub some : 0 < rows_in forecast_size

  pub record FoundNowhere : Type 0 where
    pub tables : Tables
    pub none : up_to (take past_size past) time ≤ 0
    pub empty : rows_in forecast_size ≤ 0

  abbrev pub Says : Result Row Refusal → Type 0
  Says (Ok (Past k)) = FoundPast k
  Says (Ok (Forecast k)) = FoundForecast k
  Says (Err refusal) = refusal ≡ NoSet → FoundNowhere

  -- by the tests that the definition makes
  tested : (p f t v : Bool) → is_table_in past past_size ≡ p → is_table_in forecast forecast_size ≡ f → ltb 0 (up_to (take past_size past) time) ≡ t → ltb 0 (rows_in forecast_size) ≡ v
      → Says (cond (p && f) (cond t (Ok (Past (up_to (take past_size past) time - 1))) (cond v (Ok (Forecast 0)) (Err NoSet))) (Err Table))
  tested true true true v p f t w =
      record { tables = record { past_table = p; forecast_table = f }; number = omega (arith, ltb-true 0 (up_to (take past_size past) time) t) }
  tested true true false true p f t w =
      record { tables = record { past_table = p; forecast_table = f }; first = refl; none = ltb-false 0 (up_to (take past_size past) time) t; some = ltb-true 0 (rows_in forecast_size) w }
  tested true true false false p f t w = λ r.
      record { tables = record { past_table = p; forecast_table = f }; none = ltb-false 0 (up_to (take past_size past) time) t; empty = ltb-false 0 (rows_in forecast_size) w }
  tested true false t v p f a w = λ r. (let z : ◌≡◌ {A = ℕ} 0 1 = cc in absurd (omega arith))
  tested false f t v p g a w = λ r. (let z : ◌≡◌ {A = ℕ} 0 1 = cc in absurd (omega arith))

  pub answer_says : (f : Result Row Refusal) → answer ≡ f → Says f
  unfolding finding
  answer_says f e = subst Says e (tested _ _ _ _ refl refl refl refl)

  pub past_row : (k : ℕ) → answer ≡ Ok (Past k) → row_size * k + row_size ≤ length past
  past_row k e =
      let q = answer_says (Ok (Past k)) e in
      let p = in_buffer past past_size q.tables.past_table in
      let u = few (take past_size past) p.1 time in
      omega (arith, q.number, p.0, length-take-le past_size past p.0)

  pub forecast_row : (k : ℕ) → answer ≡ Ok (Forecast k) → row_size * k + row_size ≤ length forecast
  forecast_row k e = let q = answer_says (Ok (Forecast k)) e in omega (arith, q.first, q.some, (in_buffer forecast forecast_size q.tables.forecast_table).0)
