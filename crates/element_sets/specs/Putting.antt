-- A set put into a table: document 01, "Tables of element sets", and refusals 1 to 8, 16, 21 and 22. Assumes nothing.
use Rattle.std.specs.Prelude.{ℕ, ◌+◌, ◌*◌, ◌-◌, cond, List, ◌++◌, ltb, length, take, drop, Err, None, Ok, Option, Result, Some}
use Rattle.std.proofs.lemmas.List.Edits.{sets}
use Rattle.refusal.specs.declared.Refusal.TheVariants.{Table, Room}
use Rattle.elements.specs.Elements.{checked}
use Rattle.elements.specs.declared.Elements.{Elements}
use Rattle.elements_buffer.specs.Buffer.{elements_bytes}
use Rattle.element_sets.specs.Table.{row_size, before, up_to, scanned}
use Rattle.element_sets.specs.declared.table.Split.{Split}
use Rattle.refusal.specs.declared.Refusal.{Refusal}

-- where a table of some size ends with a set behind its first rows, `earlier` in number, and ahead of those from `later` on
abbrev pub end_with : ℕ → ℕ → ℕ → ℕ
end_with earlier later size = row_size * earlier + row_size + (size - row_size * later)

-- 22, where the buffer has no room
abbrev pub placed : ℕ → ℕ → Result ℕ Refusal
placed end room = cond (ltb room end) (Err Room) (Ok end)

-- 21, then 22; the new set stands behind the sets with an earlier epoch and ahead of those with a later one, in the place of that with its own
abbrev pub putting_by : Option Split → ℕ → ℕ → Result ℕ Refusal
putting_by None size room = Err Table
putting_by (Some split) size room = placed (end_with split.earlier split.up_to size) room

abbrev pub putting_of : Result Unit Refusal → Option Split → ℕ → ℕ → Result ℕ Refusal
putting_of (Err refusal) scan size room = Err refusal
putting_of (Ok tt) scan size room = putting_by scan size room

-- what putting a set into the table of a buffer answers: 1 to 8 and 16 for the set come first
unfoldable pub putting : Elements → List ℕ → ℕ → Result ℕ Refusal
putting el buffer size = putting_of (checked el) (scanned buffer size el.epoch) size (length buffer)

-- behind the rows with earlier epochs the bytes of the set, and behind it the rows with later ones; a row of its own epoch is not kept
unfoldable pub with_set : Elements → List ℕ → ℕ → List ℕ
with_set el buffer size =
    let table = take size buffer in
    sets buffer (row_size * before table el.epoch) (elements_bytes el ++ drop (row_size * up_to table el.epoch) table)

-- the buffer afterwards; a refusal changes no byte
abbrev pub stored : Result ℕ Refusal → Elements → List ℕ → ℕ → List ℕ
stored (Err refusal) el buffer size = buffer
stored (Ok end) el buffer size = with_set el buffer size
