-- The bytes that a state of a day holds, as its buffer stores them. Assumes nothing.
use mathlib.Core.Path.{◌≡◌, ap, ◌∙◌}
use Prim.Native.Nat.{ℕ, ◌-◌}
use mathlib.Core.List.{List, [], ◌++◌, append-nil}
use lib.ListN.{length, take, drop, replicate, length-drop}
use lib.Seq.{take-length}
use Rattle.endian.proofs.Slices.{rest_part}

-- the bytes held, copied over as many zeros
pub held_copied : (buffer part : List ℕ) → length buffer ≡ 89 → part ≡ take (length buffer - 74) (drop 74 buffer) → take (length part) part ++ drop (length part) (replicate 15 0) ≡ drop 74 buffer
held_copied buffer part e p =
    let whole = p ∙ rest_part buffer 74 in
    let long : length part ≡ 15 = ap length whole ∙ length-drop 74 buffer ∙ ap (λ (k : ℕ). k - 74) e in
    let none : drop {A = ℕ} (length part) (replicate 15 0) ≡ [] = ap (λ (k : ℕ). drop {A = ℕ} k (replicate 15 0)) long in
    (λ i. take-length part i ++ none i) ∙ append-nil part ∙ whole
