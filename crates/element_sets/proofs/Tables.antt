-- What a row's bytes tell. Assumes nothing.
use mathlib.Core.Path.{◌≡◌, sym, ap, ◌∙◌}
use Prim.Native.Nat.{ℕ, ◌+◌, ◌*◌, ◌<◌}
use native.Mathlib.Nat.{add-zero, add_assoc}
use native.Mathlib.Omega.{arith}
use mathlib.Core.List.{List}
use lib.ListN.{get_or, drop}
use lib.Seq.{get_or-take, get_or-drop}
use mir.Syntax.{w64}
use mir.Val.{to_z}
use Rattle.endian.specs.LittleEndian.{le4, le8}
use Rattle.elements_buffer.specs.Buffer.{elements_of}
use Rattle.element_sets.specs.Table.{row_size, row_at, set_at, epoch_at}

module _ (table : List ℕ) (k : ℕ) where
  row_byte : (i j : ℕ) → i + j < row_size → get_or (row_at table k) (i + j) 0 ≡ get_or table (row_size * k + i + j) 0
  unfolding row_at
  row_byte i j l =
      get_or-take row_size (drop (row_size * k) table) (i + j) 0 l ∙ get_or-drop (row_size * k) table (i + j) 0
      ∙ ap (λ (n : ℕ). get_or table n 0) (sym (add_assoc (row_size * k) i j))

  row_word : (i : ℕ) → i + 3 < row_size → le4 (row_at table k) i ≡ le4 table (row_size * k + i)
  row_word i l =
      let first = rw (add-zero i, add-zero (row_size * k + i)) at (row_byte i 0 (omega arith)) in
      rw (first, row_byte i 1 (omega arith), row_byte i 2 (omega arith), row_byte i 3 (omega arith))

  -- the epoch stands first
  pub epoch_first : to_z w64 (le8 table (row_size * k)) ≡ epoch_at table k
  unfolding set_at elements_of
  epoch_first =
      let low = rw (add-zero (row_size * k)) at (row_word 0 (omega arith)) in
      rw (low, row_word 4 (omega arith))
