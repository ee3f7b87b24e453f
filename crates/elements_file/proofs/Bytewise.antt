-- A file read byte by byte. Assumes nothing.
use mathlib.Core.Path.{◌≡◌}
use mathlib.Core.List.{List}
use Prim.Native.Nat.{ℕ, ◌+◌, ◌<◌, ◌≤◌}
use native.Mathlib.Numerals.{add-one}
use lib.ListN.{length, get_or, drop, drop_of_length-le}
use lib.Seq.{drop-cons}
use Rattle.elements_file.specs.Reading.{after_bytes, step}
use Rattle.elements_file.specs.declared.Progress.{Progress}

-- one byte more leaves what the rest makes of it
pub byte_read : (s : Progress) (text : List ℕ) (i : ℕ) → i < length text → after_bytes (step s (get_or text i 0)) (drop (i + 1) text) ≡ after_bytes s (drop i text)
unfolding after_bytes
byte_read s text i h = rw (add-one, drop-cons text i 0)

pub all_read : (s : Progress) (text : List ℕ) (i : ℕ) → length text ≤ i → after_bytes s (drop i text) ≡ s
unfolding after_bytes
all_read s text i h = rw (drop_of_length-le)
