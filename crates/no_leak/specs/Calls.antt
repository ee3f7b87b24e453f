-- No leak, by the statuses and bytes of the C calls: include/yurdelmiz.h. `label_call` is what `yurdelmiz_label` gives, by its contract, and
-- so for the others. Assumes nothing.
use Rattle.std.specs.Prelude.{◌≡◌, ℕ, ◌+◌, List, [], ◌∷◌, ◌++◌, length, take, drop}
use Rattle.label.specs.Codec.{AllBytes}
use Rattle.trailer.specs.Trailer.{distance_back}
use Rattle.trailer.specs.declared.Form.{Form}
use Rattle.trailer.specs.declared.Form.TheVariants.{Bytes24}
use Rattle.labelling.specs.Records.{records}
use Rattle.packets.specs.Packet.{pending, completed}
use Rattle.packets.specs.Cutting.{Given, all_bytes}
use Rattle.elements_buffer.specs.Buffer.{elements_of}
use Rattle.day_buffer.specs.State.{day_of}
use Rattle.statuses.specs.Call.{BufferCall}
use Rattle.yurdelmiz.specs.Calls.{label_call, add_call, scale_call, open_call, close_call}
use Rattle.yurdelmiz.specs.CutDay.{takes, day_called, AllEnd, labels_called}
use Rattle.no_leak.specs.Alike.{AlikeDays}
use Rattle.no_leak.specs.Files.{SameTraining}
use Rattle.no_leak.specs.Adding.{file_for}
use Rattle.no_leak.specs.Packets.{AlikeStates, SameSizes, CutAlike}

-- two label files in buffers: the training labels; and the status and the bytes that yurdelmiz_scale gives with any figures
pub record SameCalled (first n size : ℕ) (one two : List ℕ) : Type 0 where
  pub same_training : SameTraining (drop first one) (drop first two) n
  pub same_figures : (figures : List ℕ) → scale_call figures one size ≡ scale_call figures two size

-- ---- yurdelmiz_label

-- the same status, and with status 0 the files
pub record SameLabelled (elements one two output output' : List ℕ) : Type 0 where
  pub same_status : (label_call elements one output).status ≡ (label_call elements two output').status
  pub same_files : (label_call elements one output).status ≡ 0
      → SameCalled 0 (records one) (distance_back Bytes24 (records one)) (label_call elements one output).answer (label_call elements two output').answer

-- theorem `label_calls`
abbrev pub LabelCalls : Type 0
LabelCalls =
    (elements one two output output' : List ℕ) → AlikeDays (elements_of elements) one two → length output ≡ length output'
    → SameLabelled elements one two output output'

-- ---- yurdelmiz_add

-- two calls that ended with status 0: the same answer, and the files, of n labels
pub record SameAdded (first n : ℕ) (call call' : BufferCall) : Type 0 where
  pub same_answer : call.answer ≡ call'.answer
  pub same_files : SameCalled first n (first + distance_back Bytes24 n) call.buffer call'.buffer

-- the same status, and with status 0 the files, as for adding; yurdelmiz_label took the first part, and with the trailer of 24 bytes wrote
-- the file (theorem `add_calls`)
abbrev pub AddCalls : Type 0
AddCalls =
    (elements one two more more' front front' rest rest' output answer answer' : List ℕ) (form : Form) →
    let el = elements_of elements in
    let file = file_for el form one in
    let file' = file_for el form two in
    let call = add_call elements (front ++ (file ++ rest)) (length front + length file) more answer in
    let call' = add_call elements (front' ++ (file' ++ rest')) (length front' + length file') more' answer' in
    AlikeDays el one two → (label_call elements one output).status ≡ 0 → AlikeDays el more more' → length front ≡ length front' → length rest ≡ length rest' → length answer ≡ length answer'
    → (call.status ≡ call'.status) × (call.status ≡ 0 → SameAdded (length front) (records one + records more) call call')

-- ---- yurdelmiz_packet and yurdelmiz_close

-- the same status, with status 0 the training labels, and `day` afterwards: as long, and with alike states
pub record SamePacketCalled (day day' : List ℕ) (g h : Given) : Type 0 where
  pub same_status : (takes day g).status ≡ (takes day' h).status
  pub same_training : (takes day g).status ≡ 0 → SameTraining (takes day g).buffer (takes day' h).buffer (completed (day_of day) g.packet)
  pub as_long : length (takes day g).answer ≡ length (takes day' h).answer
  pub alike_states : AlikeStates (day_of (takes day g).answer) (day_of (takes day' h).answer)

-- from any two alike states, in buffers of bytes, as for one packet (theorem `packet_calls`)
abbrev pub PacketCalls : Type 0
PacketCalls =
    (day day' : List ℕ) (g h : Given) → AllBytes day → AllBytes day' → length day ≡ length day' → AlikeStates (day_of day) (day_of day') → SameSizes g h
    → AlikeDays (day_of day).elements (pending (day_of day) g.packet) (pending (day_of day') h.packet) → SamePacketCalled day day' g h

-- the same status, and with status 0 the same trailer (theorem `close_calls`)
abbrev pub CloseCalls : Type 0
CloseCalls =
    (day day' last last' : List ℕ) → length day ≡ length day' → AlikeStates (day_of day) (day_of day') → length last ≡ length last'
    → ((close_call day last).status ≡ (close_call day' last').status) × ((close_call day last).status ≡ 0 → take 24 (close_call day last).buffer ≡ take 24 (close_call day' last').buffer)

-- the labels of the calls one after another, and the trailer
abbrev pub file_called : List ℕ → List Given → List ℕ → List ℕ
file_called day gs last = labels_called day gs ++ take 24 (close_call (day_called day gs) last).buffer

-- packet by packet, up to the first call that does not end with status 0
unfoldable pub CallByCall : List ℕ → List ℕ → List Given → List Given → Type 0
CallByCall day day' [] [] = Unit {0}
CallByCall day day' [] (h ∷ hs) = ⊥
CallByCall day day' (g ∷ gs) [] = ⊥
CallByCall day day' (g ∷ gs) (h ∷ hs) = SamePacketCalled day day' g h × ((takes day g).status ≡ 0 → CallByCall (takes day g).answer (takes day' h).answer gs hs)

-- two finished files of n labels
pub record SameFinishedCalled (n : ℕ) (file file' : List ℕ) : Type 0 where
  pub same_length : length file ≡ length file'
  pub same_files : SameCalled 0 n (length file) file file'

-- where all packets of the first day end with status 0: so do those of the second; closing; and where that ends with status 0, the files
pub record SameDayCalled (day : List ℕ) (gs hs : List Given) (last last' : List ℕ) : Type 0 where
  pub all_end : AllEnd day hs
  pub same_status : (close_call (day_called day gs) last).status ≡ (close_call (day_called day hs) last').status
  pub finished : (close_call (day_called day gs) last).status ≡ 0
      → SameFinishedCalled (records (all_bytes gs)) (file_called day gs last) (file_called day hs last')

-- alike days that are cut alike, from one opening with elements that are bytes (theorem `day_calls`)
abbrev pub DayCalls : Type 0
DayCalls =
    (elements day : List ℕ) (gs hs : List Given) (last last' : List ℕ) →
    let opened = open_call elements day in
    AllBytes elements → opened.status ≡ 0 → AlikeDays (elements_of elements) (all_bytes gs) (all_bytes hs) → CutAlike gs hs → length last ≡ length last'
    → CallByCall opened.answer opened.answer gs hs × (AllEnd opened.answer gs → SameDayCalled opened.answer gs hs last last')
