-- `day_buffer::write_day` meets its contract. Assumes nothing.
use mathlib.Core.Path.{◌≡◌, refl, ◌∙◌}
use native.Mathlib.Omega.{arith}
use mathlib.Core.List.{[], ◌∷◌, ◌++◌}
use borrow.Author.Rules.{rules}
use lib.ListN.{length}
use Rattle.endian.specs.LittleEndian.{bytes4, bytes8, words}
use Rattle.endian.proofs.Stores.{then, over_all}
use Rattle.packets.proofs.AllowedDays.{held_length}
use Rattle.elements_buffer.specs.Buffer.{elements_bytes}
use Rattle.buffers.specs.Answers.{counts_bytes}
use Rattle.day_buffer.specs.State.{closed_byte, day_bytes}
use Rattle.day_buffer.proofs.write_day.Goals as goal
use Rattle.day_buffer.proofs.write_day.Goals.{After-write_bytes}

-- the 15 places
long : (c : After-write_bytes) → length c.args.day.held ≡ 15
long c = held_length c.args.day _ c.well_formed.1.0

pub slice_bounds-write_bytes-end-2 : goal.slice_bounds-write_bytes-end-2
slice_bounds-write_bytes-end-2 c = let l = long (goal.at.slice_bounds-write_bytes-end-2 c).After-write_bytes in search (rules, l)

pub write_bytes-requires-2 : goal.write_bytes-requires-2
write_bytes-requires-2 c = let l = long (goal.at.write_bytes-requires-2 c).After-write_bytes in search (rules, l)

pub returns : goal.returns
unfolding day_bytes elements_bytes counts_bytes words bytes8 bytes4
returns c =
    let l = c.args.buffer.now in
    let d = c.args.day in
    let elements = elements_bytes d.elements in
    let counts = counts_bytes d.counts in
    let flags = closed_byte d.closed ∷ d.have ∷ [] in
    let first = then l _ _ 0 52 elements counts refl c.write_elements.ensures c.write_counts.ensures in
    let second = then l _ _ 0 72 (elements ++ counts) flags refl first c.write_bytes.ensures in
    then l _ _ 0 74 (elements ++ counts ++ flags) d.held refl second c.write_bytes-2.ensures
    ∙ over_all l (day_bytes d) (omega (arith, c.requires, held_length d _ c.well_formed.1.0))
