-- The state of a day in a buffer: include/yurdelmiz.h. Assumes nothing.
use Rattle.std.specs.Prelude.{Bool, true, false, not, ℕ, List, [], ◌∷◌, ◌++◌, eqb, get_or, drop}
use Rattle.endian.specs.LittleEndian.{le4}
use Rattle.trailer.specs.declared.Counts.{Counts}
use Rattle.packets.specs.declared.Day.{Day}
use Rattle.elements_buffer.specs.Buffer.{elements_bytes, elements_of}
use Rattle.buffers.specs.Answers.{counts_bytes}

-- ---- what the 89 bytes say

-- labels, training labels, test labels, dark labels, dark test labels, from byte 52 on
unfoldable pub counts_in : List ℕ → Counts
counts_in bytes =
    record { labels = le4 bytes 52; training = le4 bytes 56; test = le4 bytes 60; dark = le4 bytes 64; dark_test = le4 bytes 68 }

-- the elements; the counts; whether it is closed, which 24 refuses as it does any byte there but 0; how many bytes are held, and their 15
-- places
unfoldable pub day_of : List ℕ → Day
day_of bytes =
    record {
      elements = elements_of bytes;
      counts = counts_in bytes;
      closed = not (eqb (get_or bytes 72 0) 0);
      have = get_or bytes 73 0;
      held = drop 74 bytes;
    }

-- ---- the bytes of a state

-- 1 where it is closed
abbrev pub closed_byte : Bool → ℕ
closed_byte true = 1
closed_byte false = 0

unfoldable pub day_bytes : Day → List ℕ
day_bytes d = elements_bytes d.elements ++ counts_bytes d.counts ++ (closed_byte d.closed ∷ d.have ∷ []) ++ d.held
