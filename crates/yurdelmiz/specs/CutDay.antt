-- What yurdelmiz_open, yurdelmiz_packet and yurdelmiz_close give beside what yurdelmiz_label gives for the packets joined, by their statuses
-- and bytes: include/yurdelmiz.h. Assumes nothing.
use Rattle.std.specs.Prelude.{◌≡◌, ℕ, ◌*◌, ◌-◌, ◌≤◌, ◌<◌, List, [], ◌∷◌, ◌++◌, length, get_or, take, drop}
use Rattle.endian.specs.LittleEndian.{le4}
use Rattle.label.specs.Layout.{label_size}
use Rattle.packets.specs.Cutting.{Given, all_bytes}
use Rattle.statuses.specs.Call.{BufferCall}
use Rattle.yurdelmiz.specs.Calls.{label_call, read_call, open_call, packet_call, close_call}

-- ---- calls of yurdelmiz_packet one after another, on the bytes of `day`

abbrev pub takes : List ℕ → Given → BufferCall
takes day h = packet_call day h.packet h.output

-- YURDELMIZ_DAY_LABELS
abbrev pub day_labels : List ℕ → ℕ
day_labels day = le4 day 52

-- `day` after them
unfoldable pub day_called : List ℕ → List Given → List ℕ
day_called day [] = day
day_called day (h ∷ hs) = day_called (takes day h).answer hs

-- each ends with status 0
unfoldable pub AllEnd : List ℕ → List Given → Type 0
AllEnd day [] = Unit {0}
AllEnd day (h ∷ hs) = ((takes day h).status ≡ 0) × AllEnd (takes day h).answer hs

-- the labels written: from the start of each output 24 bytes for each by which YURDELMIZ_DAY_LABELS grows
unfoldable pub labels_called : List ℕ → List Given → List ℕ
labels_called day [] = []
labels_called day (h ∷ hs) =
    let after = (takes day h).answer in
    take (label_size * (day_labels after - day_labels day)) (takes day h).buffer ++ labels_called after hs

-- ---- beside one call of yurdelmiz_label

-- it writes the file into any output with room for it, and yurdelmiz_read takes the file
pub record LabelledAtOnce (elements telemetry file : List ℕ) : Type 0 where
  pub labelled : (output : List ℕ) → length file ≤ length output
      → label_call elements telemetry output ≡ record { status = 0; answer = file ++ drop (length file) output }
  pub reads : (out : List ℕ) → length out ≡ 24 → (read_call file (length file) out).status ≡ 0

-- where the elements are bytes, and each call ends with status 0 (theorem `cut_day`)
abbrev pub CutDay : Type 0
CutDay =
    (elements day : List ℕ) (hs : List Given) (last : List ℕ) → ((i : ℕ) → get_or elements i 0 < 256)
    → let opened = open_call elements day in let closed = close_call (day_called opened.answer hs) last in opened.status ≡ 0 → AllEnd opened.answer hs → closed.status ≡ 0
    → LabelledAtOnce elements (all_bytes hs) (labels_called opened.answer hs ++ take 24 closed.buffer)
