-- Little-endian numbers in a list of bytes. Assumes nothing.
use Rattle.std.specs.Prelude.{ℕ, ◌+◌, ◌*◌, ◌/◌, ◌%◌, List, [], ◌∷◌, ◌++◌, get_or, length, ◌≡◌}

-- the number of the four bytes from `at`, the lowest first, and of the eight
abbrev pub le4 : List ℕ → ℕ → ℕ
le4 s at = get_or s at 0 + 256 * get_or s (at + 1) 0 + 65_536 * get_or s (at + 2) 0 + 16_777_216 * get_or s (at + 3) 0

abbrev pub le8 : List ℕ → ℕ → ℕ
le8 s at = le4 s at + 4_294_967_296 * le4 s (at + 4)

-- the four bytes of a number, the lowest first, and the eight
unfoldable pub bytes4 : ℕ → List ℕ
bytes4 v = v % 256 ∷ v / 256 % 256 ∷ v / 256 / 256 % 256 ∷ v / 256 / 256 / 256 % 256 ∷ []

unfoldable pub bytes8 : ℕ → List ℕ
bytes8 v = bytes4 (v % 4_294_967_296) ++ bytes4 (v / 4_294_967_296)

-- numbers of four bytes one after another
unfoldable pub words : List ℕ → List ℕ
words [] = []
words (w ∷ ws) = bytes4 w ++ words ws

-- what a type of numbers owes: each has `size` bytes, and they read as the number again
pub record ReadsBack {N : Type 0} (size : ℕ) (value_at : List ℕ → ℕ → N) (bytes_of : N → List ℕ) (Fits : N → Type 0) : Type 0 where
  pub size_is : (x : N) → length (bytes_of x) ≡ size
  pub read_back : (x : N) → Fits x → value_at (bytes_of x) 0 ≡ x
