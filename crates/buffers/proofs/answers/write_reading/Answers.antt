-- `buffers::answers::write_reading` meets its contract. Assumes nothing.
use mathlib.Core.Path.{refl, ◌∙◌, ap}
use Prim.Native.Nat.{ℕ}
use native.Mathlib.Omega.{arith}
use lib.Seq.{sets}
use Rattle.endian.specs.LittleEndian.{bytes4, words}
use Rattle.endian.proofs.Stores.{then, over_all}
use Rattle.trailer.specs.Trailer.{trailer_size}
use Rattle.trailer.proofs.Trailers.{size_bounds}
use Rattle.buffers.specs.Answers.{counts_bytes, read_bytes}
use Rattle.buffers.proofs.answers.write_reading.Goals as goal

pub overflow_cast-size : goal.overflow_cast-size
overflow_cast-size c = record { fits = omega (arith, c.size.ensures, size_bounds c.args.contents.form) }

pub returns : goal.returns
unfolding read_bytes counts_bytes words bytes4
returns c =
    let l = c.args.answer.now in
    let counts = c.args.contents.counts in
    let bytes = read_bytes c.args.contents.form counts in
    let last = c.write.ensures ∙ ap (λ (k : ℕ). sets c.write_counts.new.answer 20 (bytes4 k)) c.size.ensures in
    then l _ _ 0 20 (counts_bytes counts) (bytes4 (trailer_size c.args.contents.form)) refl c.write_counts.ensures last ∙ over_all l bytes c.requires
