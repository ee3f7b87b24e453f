-- What yurdelmiz_dark_test gives for the tail of a file beside what yurdelmiz_read gives for the file, by their statuses and bytes:
-- include/yurdelmiz.h. Assumes nothing.
use Rattle.std.specs.Prelude.{◌≡◌, ℕ, List, length}
use Rattle.endian.specs.LittleEndian.{le4, bytes4}
use Rattle.label_file.specs.Tail.{tail_in}
use Rattle.buffers.specs.Answers.{not_held}
use Rattle.statuses.specs.Call.{Call}
use Rattle.yurdelmiz.specs.Calls.{read_call, dark_test_call}

-- a file, read whole
abbrev pub whole : List ℕ → List ℕ → Call
whole file out = read_call file (length file) out

-- its tail, asked
abbrev pub asked : List ℕ → List ℕ → Call
asked file answer = dark_test_call (tail_in file) (length file) answer

-- 12 from one exactly where 12 from the other; and where the whole file is accepted, its count of dark test labels, or that a trailer of
-- 16 bytes does not hold it
pub record TailOfFile (file out answer : List ℕ) : Type 0 where
  pub refused : (asked file answer).status ≡ 12 → (whole file out).status ≡ 12
  pub refuses : (whole file out).status ≡ 12 → (asked file answer).status ≡ 12
  pub held : (whole file out).status ≡ 0 → le4 (whole file out).answer 20 ≡ 24
      → asked file answer ≡ record { status = 0; answer = bytes4 (le4 (whole file out).answer 16) }
  pub is_not_held : (whole file out).status ≡ 0 → le4 (whole file out).answer 20 ≡ 16 → asked file answer ≡ record { status = 0; answer = bytes4 not_held }
