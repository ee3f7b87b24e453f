-- Rows moved up, and a set stored ahead of them. Assumes nothing.
use mathlib.Core.Path.{◌≡◌, refl, sym, ap, ◌∙◌}
use Prim.Native.Nat.{ℕ, ◌+◌, ◌-◌, ◌≤◌}
use native.Mathlib.Omega.{arith}
use mathlib.Core.List.{List, ◌++◌}
use lib.ListN.{length, take, drop, length-drop}
use lib.Seq.{sets, sets-eq, length-take-le}
use Rattle.std.proofs.lemmas.List.{drop-take}
use Rattle.std.specs.List.{copy_within}
use Rattle.endian.specs.LittleEndian.{bytes4, bytes8, words}
use Rattle.endian.proofs.Stores.{sets_append, sets_ahead}
use Rattle.elements.specs.declared.Elements.{Elements}
use Rattle.elements_buffer.specs.Buffer.{elements_bytes}
use Rattle.element_sets.specs.Table.{row_size}

-- what `copy_within` makes of rows that have room
pub moved_up : (l : List ℕ) (from size to : ℕ) → from ≤ size → size ≤ length l → to + (size - from) ≤ length l
    → copy_within l from size to ≡ sets l to (drop from (take size l))
moved_up l from size to h k room =
    let n = size - from in
    let on : from + n ≡ size = omega arith in
    let rows : drop from (take size l) ≡ take n (drop from l) = ap (λ (j : ℕ). drop from (take j l)) (sym on) ∙ drop-take from n l in
    let many : length (drop from (take size l)) ≡ n = omega (arith, length-drop from (take size l), length-take-le size l k) in
    sym (sets-eq (drop from (take size l)) l to (omega (arith, many)) ∙ (λ i. take to l ++ rows i ++ drop (to + many i) l))

pub elements_length : (el : Elements) → length (elements_bytes el) ≡ row_size
unfolding elements_bytes words bytes8 bytes4
elements_length el = refl

-- a set stored ahead of what stands behind it
pub set_placed : (l m n : List ℕ) (at : ℕ) (el : Elements) (rest : List ℕ) → m ≡ sets l (at + row_size) rest → n ≡ sets m at (elements_bytes el)
    → n ≡ sets l at (elements_bytes el ++ rest)
set_placed l m n at el rest p q =
    let row = elements_bytes el in
    q ∙ ap (λ (x : List ℕ). sets x at row) p ∙ sets_ahead l at (at + row_size) row rest (omega (arith, elements_length el))
    ∙ ap (λ (k : ℕ). sets (sets l at row) (at + k) rest) (sym (elements_length el))
    ∙ sets_append l at row rest
