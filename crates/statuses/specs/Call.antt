-- How a call of the C interface ends: include/yurdelmiz.h, "Status". Assumes nothing.
use Rattle.std.specs.Prelude.{ℕ, Bool, true, false, List}

-- the status returned, and the bytes of the buffer `answer`, in labelling `output`, afterwards
pub record Call : Type 0 where
  pub status : ℕ
  pub answer : List ℕ

-- what is asked for is refused with a status, or given in bytes
pub data Outcome : Type 0 where
  refused : ℕ → Outcome
  given : List ℕ → Outcome

-- a refusal leaves the buffer as it was; with status 0 the buffer has the bytes given
abbrev pub ended : Outcome → List ℕ → Call
ended (refused status) buffer = record { status = status; answer = buffer }
ended (given bytes) buffer = record { status = 0; answer = bytes }

-- the lengths of the buffers are looked at before all else: where one is not the header's, 255, and nothing is changed
unfoldable pub call_of : Bool → Outcome → List ℕ → Call
call_of lengths outcome buffer =
    elim lengths [ true ↦ ended outcome buffer | false ↦ record { status = 255; answer = buffer } ]

-- ---- a call that writes a buffer beside its answer: adding and putting their `buffer`, salvage its `output`; a packet and closing their `output`, with `day`
-- as the answer

pub record BufferCall : Type 0 where
  pub status : ℕ
  pub buffer : List ℕ
  pub answer : List ℕ

-- what is asked for is refused with a status, or written: the bytes of the buffer, and of the answer
pub data BufferOutcome : Type 0 where
  rejected : ℕ → BufferOutcome
  written : List ℕ → List ℕ → BufferOutcome

-- a refusal leaves both as they were
abbrev pub buffer_ended : BufferOutcome → List ℕ → List ℕ → BufferCall
buffer_ended (rejected status) buffer answer = record { status = status; buffer = buffer; answer = answer }
buffer_ended (written after bytes) buffer answer = record { status = 0; buffer = after; answer = bytes }

unfoldable pub buffer_call_of : Bool → BufferOutcome → List ℕ → List ℕ → BufferCall
buffer_call_of lengths outcome buffer answer =
    elim lengths [ true ↦ buffer_ended outcome buffer answer | false ↦ record { status = 255; buffer = buffer; answer = answer } ]
