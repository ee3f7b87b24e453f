-- Scale figures in a buffer: include/yurdelmiz.h. Assumes nothing.
use Rattle.std.specs.Prelude.{cond, ℕ, ◌+◌, List, ◌++◌, eqb, None, Option, Some}
use Rattle.std.specs.Float.{binary32}
use Rattle.std.specs.Float.Ieee.{of_bits, to_bits}
use Rattle.std.specs.Int.{w64}
use Rattle.std.proofs.Common.{of_z, to_z}
use Rattle.endian.specs.LittleEndian.{le4, le8, bytes4, bytes8}
use Rattle.scale.specs.declared.Figures.{Figures}
use Rattle.std.specs.Float.Ieee.{Float}

-- ---- what the 48 bytes say

-- none where the first number is 0, and otherwise the one whose bits follow
unfoldable pub extreme_at : List ℕ → ℕ → Option Float
extreme_at bytes at = cond (eqb (le4 bytes at) 0) None (Some (of_bits binary32 (le4 bytes (at + 4))))

unfoldable pub figures_in : List ℕ → Figures
figures_in bytes =
    record {
      files = le4 bytes 0;
      labels = le4 bytes 4;
      dark = le4 bytes 8;
      valid = le4 bytes 12;
      least = extreme_at bytes 16;
      greatest = extreme_at bytes 24;
      sines = to_z w64 (le8 bytes 32);
      squares = le8 bytes 40;
    }

-- ---- the bytes of figures

abbrev pub extreme_bytes : Option Float → List ℕ
extreme_bytes None = bytes4 0 ++ bytes4 0
extreme_bytes (Some x) = bytes4 1 ++ bytes4 (to_bits binary32 x)

unfoldable pub figures_bytes : Figures → List ℕ
figures_bytes f =
    bytes4 f.files ++ bytes4 f.labels ++ bytes4 f.dark ++ bytes4 f.valid ++ extreme_bytes f.least ++ extreme_bytes f.greatest
    ++ bytes8 (of_z w64 f.sines) ++ bytes8 f.squares
