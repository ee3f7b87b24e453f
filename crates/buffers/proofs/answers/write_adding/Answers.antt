-- `buffers::answers::write_adding` meets its contract. Assumes nothing.
use mathlib.Core.Path.{refl, ◌∙◌}
use Rattle.endian.specs.LittleEndian.{bytes4, bytes8, words}
use Rattle.endian.proofs.Stores.{then, over_all}
use Rattle.buffers.specs.Answers.{counts_bytes, add_bytes}
use Rattle.buffers.proofs.answers.write_adding.Goals as goal

pub returns : goal.returns
unfolding add_bytes counts_bytes words bytes8 bytes4
returns c =
    let l = c.args.answer.now in
    let counts = c.args.counts in
    then l _ _ 0 8 (bytes8 c.args.size) (counts_bytes counts) refl c.write.ensures c.write_counts.ensures ∙ over_all l (add_bytes counts c.args.size) c.requires
