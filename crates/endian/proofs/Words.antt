-- Numbers of four bytes stored one after another. Assumes nothing.
use mathlib.Core.Path.{◌≡◌, refl, sym, ap, ◌∙◌}
use mathlib.Core.List.{List, [], ◌∷◌, ◌++◌, append_assoc}
use Prim.Native.Nat.{ℕ, ◌+◌, ◌*◌, ◌<◌}
use native.Mathlib.Omega.{arith}
use lib.ListN.{length, get_or, take}
use lib.Seq.{sets, length-take-le}
use Rattle.std.proofs.lemmas.List.{take_more}
use Rattle.endian.specs.LittleEndian.{bytes4, words}
use Rattle.endian.proofs.Stores.{then, over_all}

words_length : (ws : List ℕ) → length (words ws) ≡ 4 * length ws
unfolding words bytes4
words_length [] = refl
words_length (w ∷ ws) = omega (arith, words_length ws)

words_snoc : (ws : List ℕ) (w : ℕ) → words (ws ++ w ∷ []) ≡ words ws ++ bytes4 w
unfolding words bytes4
words_snoc [] w = refl
words_snoc (v ∷ ws) w = ap (λ (l : List ℕ). bytes4 v ++ l) (words_snoc ws w) ∙ sym (append_assoc (bytes4 v) (words ws) (bytes4 w))

-- one number more
pub word_stored : (l m n : List ℕ) (at i : ℕ) (ws : List ℕ) → i < length ws → m ≡ sets l at (words (take i ws))
    → n ≡ sets m (at + 4 * i) (bytes4 (get_or ws i 0)) → n ≡ sets l at (words (take (i + 1) ws))
word_stored l m n at i ws h p q =
    let long : length (words (take i ws)) ≡ 4 * i = omega (arith, words_length (take i ws), length-take-le i ws (omega arith)) in
    then l m n at (4 * i) (words (take i ws)) (bytes4 (get_or ws i 0)) long p q
    ∙ ap (sets l at) (sym (ap words (take_more ws i 0 h) ∙ words_snoc (take i ws) (get_or ws i 0)))

-- numbers that fill a buffer
pub words_fill : (l ws : List ℕ) → length l ≡ 4 * length ws → sets l 0 (words ws) ≡ words ws
words_fill l ws e = over_all l (words ws) (e ∙ sym (words_length ws))
