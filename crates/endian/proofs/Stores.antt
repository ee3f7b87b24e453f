-- Runs of bytes stored one after another. Assumes nothing.
use mathlib.Core.Path.{◌≡◌, refl, sym, ap, ◌∙◌}
use Prim.Native.Nat.{ℕ, suc, ◌+◌, ◌≤◌, ◌<◌}
use native.Mathlib.Nat.{add-zero, add-suc, suc-add}
use native.Mathlib.Omega.{arith}
use mathlib.Core.List.{List, [], ◌∷◌, ◌++◌, append-nil}
use lib.ListN.{length, get_or, set, take, drop, length-drop, take-append-drop, drop_of_length-le}
use lib.Seq.{sets, sets-eq, set_comm, get_or-set_other, take-take, take_all, length-take-le}
use mir.Syntax.{w32, w64}
use borrow.Rule.Slice.PartMut.{put_mid}
use Rattle.std.specs.Int.{to_le_bytes}
use Rattle.std.proofs.lemmas.Slice.{put_mid-paste}
use Rattle.endian.specs.LittleEndian.{bytes4, bytes8}

-- a run after another is one run
pub sets_append : (l : List ℕ) (i : ℕ) (a b : List ℕ) → sets (sets l i a) (i + length a) b ≡ sets l i (a ++ b)
sets_append l i [] b = ap (λ (k : ℕ). sets l k b) (add-zero i)
sets_append l i (x ∷ a) b =
    ap (λ (k : ℕ). sets (sets l i (x ∷ a)) k b) (add-suc i (length a) ∙ sym (suc-add i (length a)))
    ∙ sets_append (set l i x) (suc i) a b

-- the same of what two calls left, the first run being k long
pub then : (l m n : List ℕ) (at k : ℕ) (a b : List ℕ) → length a ≡ k → m ≡ sets l at a → n ≡ sets m (at + k) b → n ≡ sets l at (a ++ b)
then l m n at k a b e p q =
    q ∙ ap (λ (j : List ℕ). sets j (at + k) b) p ∙ ap (λ (j : ℕ). sets (sets l at a) (at + j) b) (sym e)
    ∙ sets_append l at a b

pub length_bytes4 : (v : ℕ) → length (bytes4 v) ≡ 4
unfolding bytes4
length_bytes4 v = refl

-- a part of a buffer copied over
pub copied : (l ys zs : List ℕ) (at k : ℕ) → ys ≡ zs → length ys ≡ length (take k (drop at l)) → at + k ≤ length l → put_mid at k l ys ≡ sets l at zs
copied l ys zs at k e h f =
    let long : k ≡ length zs = omega (arith, ap length e, length-drop at l, length-take-le k (drop at l) (omega (arith, length-drop at l))) in
    put_mid-paste at k l ys zs (length zs) e (sym long) refl
    ∙ rw (take_all (length zs) zs (omega arith)) (sym (sets-eq zs l at (omega arith)))

-- std's words for the same bytes
pub bytes4_is : (v : ℕ) → bytes4 v ≡ to_le_bytes w32 v
unfolding bytes4
bytes4_is v = grind arith

pub bytes8_is : (v : ℕ) → bytes8 v ≡ to_le_bytes w64 v
unfolding bytes8 bytes4
bytes8_is v = grind arith

-- bytes over the whole of a buffer
pub over_all : (l bs : List ℕ) → length l ≡ length bs → sets l 0 bs ≡ bs
over_all l bs e =
    let rest : drop (0 + length bs) l ≡ [] = drop_of_length-le l {i = 0 + length bs} (omega arith) in
    sets-eq bs l 0 (omega arith) ∙ rw rest (append-nil bs)

-- ---- what is stored ahead of a run

pub set_ahead : (l : List ℕ) (i at x : ℕ) (b : List ℕ) → i < at → set (sets l at b) i x ≡ sets (set l i x) at b
set_ahead l i at x [] h = refl
set_ahead l i at x (y ∷ b) h =
    set_ahead (set l at y) i (suc at) x b (omega arith) ∙ ap (λ (m : List ℕ). sets m (suc at) b) (set_comm l at i y x (λ e. omega arith))

pub sets_ahead : (l : List ℕ) (i at : ℕ) (a b : List ℕ) → i + length a ≤ at → sets (sets l at b) i a ≡ sets (sets l i a) at b
sets_ahead l i at [] b h = refl
sets_ahead l i at (x ∷ a) b h =
    ap (λ (m : List ℕ). sets m (suc i) a) (set_ahead l i at x b (omega arith)) ∙ sets_ahead (set l i x) (suc i) at a b (omega arith)

pub get_d_ahead : (l : List ℕ) (i at : ℕ) (b : List ℕ) → i < at → get_or (sets l at b) i 0 ≡ get_or l i 0
get_d_ahead l i at [] h = refl
get_d_ahead l i at (y ∷ b) h = get_d_ahead (set l at y) i (suc at) b (omega arith) ∙ get_or-set_other l at i y 0 (λ e. omega arith)

-- bytes over themselves
pub sets_own : (l : List ℕ) (i m : ℕ) → i ≤ m → m ≤ length l → sets l i (drop i (take m l)) ≡ l
sets_own l i m h k =
    let own = drop i (take m l) in
    let size : i + length own ≡ m = omega (arith, length-drop i (take m l), length-take-le m l k) in
    let front : take i l ≡ take i (take m l) = sym (take-take i m l h) in
    sets-eq own l i (omega arith)
    ∙ (λ j. front j ++ own ++ drop (size j) l)
    ∙ ap (λ (t : List ℕ). t ++ drop m l) (take-append-drop i (take m l))
    ∙ take-append-drop m l
