-- Tables of element sets: document 01, "Tables of element sets", and refusal 21. Assumes nothing.
use Rattle.std.specs.Prelude.{ℕ, zero, suc, ◌*◌, ◌/◌, ◌%◌, Bool, true, false, cond, ◌&&◌, List, eqb, leb, ℤ, length, take, drop, Err, None, Ok, Option, Result, Some}
use Rattle.std.specs.Int.Signed.{lt_z, le_z}
use Rattle.sequence.specs.Sequence.{leading}
use Rattle.elements.specs.Elements.{checked}
use Rattle.elements.specs.declared.Elements.{Elements}
use Rattle.elements_buffer.specs.Buffer.{elements_of}
use Rattle.element_sets.specs.declared.table.Split.{Split}
use Rattle.refusal.specs.declared.Refusal.{Refusal}

abbrev pub split_at : ℕ → ℕ → Split
split_at earlier up_to = record { earlier = earlier; up_to = up_to }

-- a row is 52 bytes
abbrev pub row_size : ℕ
row_size = 52

abbrev pub rows_in : ℕ → ℕ
rows_in size = size / row_size

-- the bytes of a row, by its number from 0
unfoldable pub row_at : List ℕ → ℕ → List ℕ
row_at table k = take row_size (drop (row_size * k) table)

-- the set that a row holds
unfoldable pub set_at : List ℕ → ℕ → Elements
set_at table k = elements_of (row_at table k)

abbrev pub epoch_at : List ℕ → ℕ → ℤ
epoch_at table k = (set_at table k).epoch

-- 1 to 8 and 16 would not refuse a set
abbrev pub accepts : Result Unit Refusal → Bool
accepts (Ok tt) = true
accepts (Err refusal) = false

-- each epoch is after that of the row before, so that none stands twice
unfoldable pub follows : List ℕ → ℕ → Bool
follows table zero = true
follows table (suc k) = lt_z (epoch_at table k) (epoch_at table (suc k))

unfoldable pub keeps_at : List ℕ → ℕ → Bool
keeps_at table k = accepts (checked (set_at table k)) && follows table k

-- whole rows, each of which keeps these rules; 21 refuses any other bytes
unfoldable pub is_table : List ℕ → Bool
is_table table = eqb (length table % row_size) 0 && eqb (leading (keeps_at table) (rows_in (length table))) (rows_in (length table))

-- the first bytes of a buffer; a length beyond it is a wrong length
unfoldable pub is_table_in : List ℕ → ℕ → Bool
is_table_in buffer size = leb size (length buffer) && is_table (take size buffer)

-- how many sets, from the first row on, have an epoch before a time, and how many one not after it
unfoldable pub before : List ℕ → ℤ → ℕ
before table time = leading (λ k. lt_z (epoch_at table k) time) (rows_in (length table))

unfoldable pub up_to : List ℕ → ℤ → ℕ
up_to table time = leading (λ k. le_z (epoch_at table k) time) (rows_in (length table))

-- both numbers, of the table at the start of a buffer, or that it is none
unfoldable pub scanned : List ℕ → ℕ → ℤ → Option Split
scanned buffer size time =
    cond (is_table_in buffer size) (Some (split_at (before (take size buffer) time) (up_to (take size buffer) time))) None
