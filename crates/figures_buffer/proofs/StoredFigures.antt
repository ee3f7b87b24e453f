-- The lengths of what is stored. Assumes nothing.
use mathlib.Core.Path.{◌≡◌, refl, ◌∙◌}
use mathlib.Core.List.{List, ◌++◌}
use Prim.Native.Nat.{ℕ, ◌+◌}
use lib.ListN.{length, length-append}
use mir.Syntax.{w64}
use mir.Val.{of_z}
use Rattle.endian.specs.LittleEndian.{bytes4, bytes8}
use Rattle.scale.specs.declared.Figures.{Figures}
use Rattle.figures_buffer.specs.FigureBytes.{extreme_bytes, figures_bytes}
use Rattle.std.specs.Float.Ieee.{Float}
use Rattle.std.specs.Prelude.{None, Option, Some}

pub extreme_length : (e : Option Float) → length (extreme_bytes e) ≡ 8
unfolding bytes4
extreme_length None = refl
extreme_length (Some x) = refl

-- with eight bytes behind
pub eight_behind : (l piece : List ℕ) {k : ℕ} → length piece ≡ 8 → length l ≡ k → length (l ++ piece) ≡ k + 8
eight_behind l piece e h = length-append l piece ∙ (λ i. h i + e i)

-- the four counts
abbrev pub count_bytes : Figures → List ℕ
count_bytes f = bytes4 f.files ++ bytes4 f.labels ++ bytes4 f.dark ++ bytes4 f.valid

pub counts_length : (f : Figures) → length (count_bytes f) ≡ 16
unfolding bytes4
counts_length f = refl

pub total_length : (n : ℕ) → length (bytes8 n) ≡ 8
unfolding bytes8 bytes4
total_length n = refl

pub figures_length : (f : Figures) → length (figures_bytes f) ≡ 48
unfolding figures_bytes
figures_length f =
    let one = count_bytes f ++ extreme_bytes f.least in
    let both = one ++ extreme_bytes f.greatest in
    let sum = both ++ bytes8 (of_z w64 f.sines) in
    eight_behind sum (bytes8 f.squares) (total_length _)
    (eight_behind both (bytes8 (of_z w64 f.sines)) (total_length _)
    (eight_behind one (extreme_bytes f.greatest) (extreme_length f.greatest) (eight_behind (count_bytes f) (extreme_bytes f.least) (extreme_length f.least) (counts_length f))))
