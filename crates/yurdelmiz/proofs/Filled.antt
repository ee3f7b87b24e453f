-- Elements that are written over the whole of their buffer. Assumes nothing.
use mathlib.Core.Path.{◌≡◌}
use mathlib.Core.List.{List}
use lib.Seq.{sets}
use Rattle.std.specs.Prelude.{ℕ, length}
use Rattle.endian.specs.LittleEndian.{bytes4, bytes8, words}
use Rattle.endian.proofs.Stores.{over_all}
use Rattle.elements.specs.declared.Elements.{Elements}
use Rattle.elements_buffer.specs.Buffer.{elements_bytes}

pub elements_fill : (buffer : List ℕ) (el : Elements) → length buffer ≡ 52 → sets buffer 0 (elements_bytes el) ≡ elements_bytes el
unfolding elements_bytes words bytes8 bytes4
elements_fill buffer el e = over_all buffer (elements_bytes el) e
