-- What is proved of finding and of putting, beyond what each function promises. Assumes nothing.
use Rattle.std.specs.Prelude.{◌≡◌, ℕ, ◌<◌, Bool, true, false, ◌&&◌, List, ℤ, length, take, Err, Ok, Result}
use Rattle.std.specs.Int.Signed.{le_z, lt_z}
use Rattle.refusal.specs.declared.Refusal.TheVariants.{NoSet}
use Rattle.elements.specs.Contract.{Held}
use Rattle.elements.specs.declared.Elements.{Elements}
use Rattle.elements_buffer.specs.Buffer.{elements_bytes}
use Rattle.element_sets.specs.Table.{rows_in, row_at, epoch_at, is_table_in}
use Rattle.element_sets.specs.Finding.{finding}
use Rattle.element_sets.specs.Putting.{putting, with_set}
use Rattle.element_sets.specs.declared.lookup.Row.TheVariants.{Past, Forecast}
use Rattle.element_sets.specs.declared.lookup.Row.{Row}
use Rattle.refusal.specs.declared.Refusal.{Refusal}

-- ---- finding, without the order of the rows

-- of the sets with an epoch not after a time, that of row k has the latest
pub record LatestUpTo (table : List ℕ) (time : ℤ) (k : ℕ) : Type 0 where
  pub row : k < rows_in (length table)
  pub up_to_time : le_z (epoch_at table k) time ≡ true
  pub latest : (j : ℕ) → j < rows_in (length table) → le_z (epoch_at table j) time ≡ true → le_z (epoch_at table j) (epoch_at table k) ≡ true

abbrev pub NoneUpTo : List ℕ → ℤ → Type 0
NoneUpTo table time = (j : ℕ) → j < rows_in (length table) → le_z (epoch_at table j) time ≡ false

-- the set of row k has the earliest epoch
pub record Earliest (table : List ℕ) (k : ℕ) : Type 0 where
  pub row : k < rows_in (length table)
  pub earliest : (j : ℕ) → j < rows_in (length table) → le_z (epoch_at table k) (epoch_at table j) ≡ true

abbrev pub Answers : Result Row Refusal → List ℕ → List ℕ → ℤ → Type 0
Answers (Ok (Past k)) past forecast time = LatestUpTo past time k
Answers (Ok (Forecast k)) past forecast time = NoneUpTo past time × Earliest forecast k
Answers (Err refusal) past forecast time = refusal ≡ NoSet → NoneUpTo past time × (rows_in (length forecast) ≡ 0)

-- theorem `found_answers`
abbrev pub FoundAnswers : Type 0
FoundAnswers =
    (past : List ℕ) (past_size : ℕ) (forecast : List ℕ) (forecast_size : ℕ) (time : ℤ) (answer : Result Row Refusal)
    → finding past past_size forecast forecast_size time ≡ answer
    → Answers answer (take past_size past) (take forecast_size forecast) time

-- ---- a table that putting made

-- a set that the table of a buffer takes, and the length of that table then
pub record PutInto (el : Elements) (buffer : List ℕ) (size end : ℕ) : Type 0 where
  pub held : Held el
  pub put : putting el buffer size ≡ Ok end

-- it is in order, and finding accepts it (theorem `in_order`)
abbrev pub InOrder : Type 0
InOrder = (el : Elements) (buffer : List ℕ) (size end : ℕ) → PutInto el buffer size end → is_table_in (with_set el buffer size) end ≡ true

-- finding in the past gives a row of these bytes, which are those of the part that is returned
pub record FoundRow (past : List ℕ) (past_size : ℕ) (forecast : List ℕ) (forecast_size : ℕ) (time : ℤ) (row : List ℕ) : Type 0 where
  pub number : ℕ
  pub found : finding past past_size forecast forecast_size time ≡ Ok (Past number)
  pub is : row_at past number ≡ row

-- as the past it has the new set for the time of its epoch (theorem `new_set_found`)
abbrev pub NewSetFound : Type 0
NewSetFound =
    (el : Elements) (buffer : List ℕ) (size end : ℕ) → PutInto el buffer size end
    → (forecast : List ℕ) (forecast_size : ℕ) → is_table_in forecast forecast_size ≡ true
    → FoundRow (with_set el buffer size) end forecast forecast_size el.epoch (elements_bytes el)

-- the new set comes between a row of the table and a time
unfoldable pub between : Elements → List ℕ → ℕ → ℤ → Bool
between el table k time = le_z (epoch_at table k) el.epoch && le_z el.epoch time

-- as the past: every row of it that was found before is found after, unless the new set comes between, and then the new set is found (theorem
-- `others_found`)
abbrev pub OthersFound : Type 0
OthersFound =
    (el : Elements) (buffer : List ℕ) (size end : ℕ) → PutInto el buffer size end
    → (forecast : List ℕ) (forecast_size : ℕ) (time : ℤ) (k : ℕ) → finding buffer size forecast forecast_size time ≡ Ok (Past k)
    → (between el (take size buffer) k time ≡ false → FoundRow (with_set el buffer size) end forecast forecast_size time (row_at buffer k))
    × (between el (take size buffer) k time ≡ true → FoundRow (with_set el buffer size) end forecast forecast_size time (elements_bytes el))

-- as the past, where a row of the forecast was found before: it is found after, unless the new set is up to the time, and then the new set is
-- found (theorem `past_grown`)
abbrev pub PastGrown : Type 0
PastGrown =
    (el : Elements) (buffer : List ℕ) (size end : ℕ) → PutInto el buffer size end
    → (forecast : List ℕ) (forecast_size : ℕ) (time : ℤ) (k : ℕ) → finding buffer size forecast forecast_size time ≡ Ok (Forecast k)
    → (le_z el.epoch time ≡ false → finding (with_set el buffer size) end forecast forecast_size time ≡ Ok (Forecast k))
    × (le_z el.epoch time ≡ true → FoundRow (with_set el buffer size) end forecast forecast_size time (elements_bytes el))

-- as the forecast: a row of the past that was found before is found after (theorem `past_kept`)
abbrev pub PastKept : Type 0
PastKept =
    (el : Elements) (buffer : List ℕ) (size end : ℕ) → PutInto el buffer size end
    → (past : List ℕ) (past_size : ℕ) (time : ℤ) (k : ℕ) → finding past past_size buffer size time ≡ Ok (Past k)
    → finding past past_size (with_set el buffer size) end time ≡ Ok (Past k)

-- as the forecast, where a row of it was found before: a row of the same number is found after, and it has the same bytes, unless the new set's
-- epoch is not after the row's, and then it is the new set (theorem `forecast_kept`)
abbrev pub ForecastKept : Type 0
ForecastKept =
    (el : Elements) (buffer : List ℕ) (size end : ℕ) → PutInto el buffer size end
    → (past : List ℕ) (past_size : ℕ) (time : ℤ) (k : ℕ) → finding past past_size buffer size time ≡ Ok (Forecast k)
    → (finding past past_size (with_set el buffer size) end time ≡ Ok (Forecast k))
    × (lt_z (epoch_at (take size buffer) k) el.epoch ≡ true → row_at (with_set el buffer size) k ≡ row_at buffer k)
    × (lt_z (epoch_at (take size buffer) k) el.epoch ≡ false → row_at (with_set el buffer size) k ≡ elements_bytes el)
