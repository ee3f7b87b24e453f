-- Lists of bytes: a number's bytes, and the bytes of the number that bytes make. Assumes nothing.
use mathlib.Core.Path.{◌≡◌, refl, ◌∙◌, ap}
use Prim.Native.Nat.{ℕ, zero, suc, ◌+◌, ◌*◌, ◌/◌, ◌%◌, ◌<◌}
use native.Mathlib.Nat.{mod-eq_of_lt}
use native.Mathlib.Omega.{arith}
use mathlib.Core.List.{List, [], ◌∷◌, ◌++◌}
use lib.ListN.{get_or, length, take, drop}
use lib.Seq.{get_or-drop}
use Rattle.endian.specs.LittleEndian.{le4, le8, bytes4, bytes8}
use Rattle.label.specs.Codec.{AllBytes}

-- ---- every element a byte

taken : (n : ℕ) (l : List ℕ) → ((i : ℕ) → get_or l i 0 < 256) → (i : ℕ) → get_or (take n l) i 0 < 256
taken zero l h i = omega arith
taken (suc n) [] h i = omega arith
taken (suc n) (x ∷ l) h zero = h 0
taken (suc n) (x ∷ l) h (suc i) = taken n l (λ j. h (suc j)) i

-- of a part
pub all_part : {l : List ℕ} (n k : ℕ) → AllBytes l → AllBytes (take n (drop k l))
all_part {l} n k all = record { byte = taken n (drop k l) (λ i. rw get_or-drop (all.byte (k + i))) }

-- ---- the number that bytes make

low : (a m : ℕ) → a < 256 → (a + 256 * m) % 256 ≡ a
low a m h = omega arith

rest : (a m : ℕ) → a < 256 → (a + 256 * m) / 256 ≡ m
rest a m h = omega arith

four : (a b c d : ℕ) → a < 256 → b < 256 → c < 256 → d < 256 → bytes4 (a + 256 * b + 65_536 * c + 16_777_216 * d) ≡ a ∷ b ∷ c ∷ d ∷ []
unfolding bytes4
four a b c d p q r s =
    let k : ℕ = c + 256 * d in
    let m : ℕ = b + 256 * k in
    let n : ℕ = a + 256 * b + 65_536 * c + 16_777_216 * d in
    let e : n ≡ a + 256 * m = omega arith in
    let u : n / 256 ≡ m = ap (λ (x : ℕ). x / 256) e ∙ rest a m p in
    let v : n / 256 / 256 ≡ k = ap (λ (x : ℕ). x / 256) u ∙ rest b k q in
    let w : n / 256 / 256 / 256 ≡ d = ap (λ (x : ℕ). x / 256) v ∙ rest c d r in
    let f : n % 256 ≡ a = ap (λ (x : ℕ). x % 256) e ∙ low a m p in
    let g : n / 256 % 256 ≡ b = ap (λ (x : ℕ). x % 256) u ∙ low b k q in
    let h : n / 256 / 256 % 256 ≡ c = ap (λ (x : ℕ). x % 256) v ∙ low c d r in
    let t : n / 256 / 256 / 256 % 256 ≡ d = ap (λ (x : ℕ). x % 256) w ∙ mod-eq_of_lt s in
    λ i. f i ∷ g i ∷ h i ∷ t i ∷ []

module _ (bytes : List ℕ) (all : AllBytes bytes) where
  pub le4_below : (at : ℕ) → le4 bytes at < 4294967296
  le4_below at = omega (arith, all.byte at, all.byte (at + 1), all.byte (at + 2), all.byte (at + 3))

  pub le8_below : (at : ℕ) → le8 bytes at < 18446744073709551616
  le8_below at = omega (arith, le4_below at, le4_below (at + 4))

  pub bytes4_le4 : (at : ℕ) → bytes4 (le4 bytes at) ≡ get_or bytes at 0 ∷ get_or bytes (at + 1) 0 ∷ get_or bytes (at + 2) 0 ∷ get_or bytes (at + 3) 0 ∷ []
  bytes4_le4 at = four (get_or bytes at 0) (get_or bytes (at + 1) 0) (get_or bytes (at + 2) 0) (get_or bytes (at + 3) 0) (all.byte at) (all.byte (at + 1)) (all.byte (at + 2)) (all.byte (at + 3))

  pub bytes8_le8 : (at : ℕ) → bytes8 (le8 bytes at) ≡ bytes4 (le4 bytes at) ++ bytes4 (le4 bytes (at + 4))
  unfolding bytes8
  bytes8_le8 at =
      let l = le4_below at in
      let low : le8 bytes at % 4294967296 ≡ le4 bytes at = omega arith in
      let high : le8 bytes at / 4294967296 ≡ le4 bytes (at + 4) = omega arith in
      λ i. bytes4 (low i) ++ bytes4 (high i)

-- ---- a list by its places

abbrev pub build : ℕ → (ℕ → ℕ) → List ℕ
build zero f = []
build (suc n) f = f 0 ∷ build n (λ i. f (suc i))

pub spelled : (n : ℕ) (l : List ℕ) → length l ≡ n → build n (λ i. get_or l i 0) ≡ l
spelled zero [] e = refl
spelled zero (x ∷ l) e = absurd (omega arith)
spelled (suc n) [] e = absurd (omega arith)
spelled (suc n) (x ∷ l) e = ap (λ (t : List ℕ). x ∷ t) (spelled n l (omega arith))
