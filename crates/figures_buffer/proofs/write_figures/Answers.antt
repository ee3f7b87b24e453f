-- `figures_buffer::write_figures` meets its contract. Assumes nothing.
use mathlib.Core.Path.{sym, ◌∙◌}
use mathlib.Core.List.{◌++◌}
use borrow.Author.Rules.{rules}
use mir.Syntax.{w64}
use mir.Val.{SFits, of_z}
use mir.Facts.{to_z-of_z}
use Rattle.endian.specs.LittleEndian.{bytes4, bytes8, words}
use Rattle.endian.proofs.Stores.{then, over_all}
use Rattle.figures_buffer.specs.FigureBytes.{extreme_bytes, figures_bytes}
use Rattle.figures_buffer.proofs.StoredFigures.{extreme_length, eight_behind, count_bytes, counts_length, total_length, figures_length}
use Rattle.figures_buffer.proofs.write_figures.Goals as goal
use Rattle.figures_buffer.proofs.write_figures.Goals.{Start}

sines_fit : (s : Start) → SFits w64 s.args.figures.sines
sines_fit s = search rules

pub returns : goal.returns
unfolding figures_bytes words bytes4
returns c =
    let l = c.args.buffer.now in
    let f = c.args.figures in
    let one = count_bytes f ++ extreme_bytes f.least in
    let both = one ++ extreme_bytes f.greatest in
    let sum = both ++ bytes8 (of_z w64 f.sines) in
    let one_long = eight_behind (count_bytes f) (extreme_bytes f.least) (extreme_length f.least) (counts_length f) in
    let both_long = eight_behind one (extreme_bytes f.greatest) (extreme_length f.greatest) one_long in
    let at_16 = then l _ _ 0 16 (count_bytes f) (extreme_bytes f.least) (counts_length f) c.write_words.ensures c.write_extreme.ensures in
    let at_24 = then l _ _ 0 24 one (extreme_bytes f.greatest) one_long at_16 c.write_extreme-2.ensures in
    let at_32 = then l _ _ 0 32 both (bytes8 (of_z w64 f.sines)) both_long at_24 (rw (to_z-of_z (sines_fit (goal.at.returns c).Start)) at c.write.ensures) in
    then l _ _ 0 40 sum (bytes8 f.squares) (eight_behind both (bytes8 (of_z w64 f.sines)) (total_length _) both_long) at_32 c.write-2.ensures
    ∙ over_all l (figures_bytes f) (c.requires ∙ sym (figures_length f))
