-- The set for a time: document 01, "Tables of element sets", and refusals 21 and 23. Assumes nothing.
use Rattle.std.specs.Prelude.{◌≡◌, ℕ, ◌-◌, ◌*◌, cond, ◌&&◌, List, ltb, ℤ, take, Err, Ok, Result}
use Rattle.std.specs.Borrow.{Bor}
use Rattle.refusal.specs.declared.Refusal.TheVariants.{Table, NoSet}
use Rattle.element_sets.specs.Table.{row_size, rows_in, is_table_in, up_to}
use Rattle.element_sets.specs.Part.{PartOf}
use Rattle.element_sets.specs.declared.lookup.Row.TheVariants.{Past, Forecast}
use Rattle.element_sets.specs.declared.lookup.Row.{Row}
use Rattle.refusal.specs.declared.Refusal.{Refusal}

-- the past sets with an epoch not after the time are the first rows, so many, and the last of them has the latest; if there is none, of so many
-- forecast sets the first row has the earliest (theorem `found_answers`)
abbrev pub found_among : ℕ → ℕ → Result Row Refusal
found_among past forecast = cond (ltb 0 past) (Ok (Past (past - 1))) (cond (ltb 0 forecast) (Ok (Forecast 0)) (Err NoSet))

-- 21 for either table, then 23
unfoldable pub finding : List ℕ → ℕ → List ℕ → ℕ → ℤ → Result Row Refusal
finding past past_size forecast forecast_size time =
    cond (is_table_in past past_size && is_table_in forecast forecast_size)
    (found_among (up_to (take past_size past) time) (rows_in forecast_size))
    (Err Table)

-- what is returned: the row where it stands in its table, or the refusal
unfoldable pub RowIs : Result Row Refusal → Bor (List ℕ) → Bor (List ℕ) → Result (Bor (List ℕ)) Refusal → Type 0
RowIs (Ok (Past k)) past forecast (Ok r) = PartOf past (row_size * k) row_size r
RowIs (Ok (Forecast k)) past forecast (Ok r) = PartOf forecast (row_size * k) row_size r
RowIs (Err refusal) past forecast (Err r) = r ≡ refusal
RowIs (Ok (Past k)) past forecast (Err r) = ⊥
RowIs (Ok (Forecast k)) past forecast (Err r) = ⊥
RowIs (Err refusal) past forecast (Ok r) = ⊥
