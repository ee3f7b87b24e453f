-- No leak in a day that comes in packets. `packet_step` and `closing_step` are what `packets::take_packet` and `packets::close_day` give, and
-- `packet_output` and `closing_output` the outputs afterwards, by their contracts. Assumes nothing.
use Rattle.std.specs.Prelude.{◌≡◌, ℕ, List, [], ◌∷◌, length, take, Err, Ok, Result}
use Rattle.elements.specs.declared.Elements.{Elements}
use Rattle.trailer.specs.Trailer.{trailer_size}
use Rattle.trailer.specs.declared.Form.TheVariants.{Bytes24}
use Rattle.labelling.specs.Records.{records}
use Rattle.packets.specs.declared.Day.{Day}
use Rattle.packets.specs.Day.{opening_step}
use Rattle.packets.specs.Packet.{pending, completed, packet_step, packet_output}
use Rattle.packets.specs.Closing.{closing_step, closing_output}
use Rattle.packets.specs.Cutting.{Given, all_bytes, day_behind, day_from, AllAccepted, file_from}
use Rattle.no_leak.specs.Alike.{AlikeDays}
use Rattle.no_leak.specs.Files.{SameTraining, SameFiles}
use Rattle.refusal.specs.declared.RefusedAt.{RefusedAt}

-- ---- one packet

-- the same but for the bytes held, and as many of these
pub record AlikeStates (d e : Day) : Type 0 where
  pub same_elements : d.elements ≡ e.elements
  pub same_counts : d.counts ≡ e.counts
  pub same_closed : d.closed ≡ e.closed
  pub same_have : d.have ≡ e.have

-- the same length, and the same room in the outputs lent with them
pub record SameSizes (g h : Given) : Type 0 where
  pub same_length : length g.packet ≡ length h.packet
  pub same_room : length g.output ≡ length h.output

abbrev pub outcome_of : Day → Given → Result Unit RefusedAt
outcome_of d g = (packet_step d g.packet (length g.output)).outcome

-- refused alike or both accepted, with as many labels; the training labels that an accepted packet writes; and the states behind it
pub record SamePacket (d e : Day) (g h : Given) : Type 0 where
  pub same_outcome : outcome_of d g ≡ outcome_of e h
  pub same_number : completed d g.packet ≡ completed e h.packet
  pub same_training : outcome_of d g ≡ Ok tt
      → SameTraining (packet_output d g.packet g.output) (packet_output e h.packet h.output) (completed d g.packet)
  pub alike_states : AlikeStates (day_behind d g) (day_behind e h)

-- from any two alike states, where the pending bytes are alike: the records that the packets complete (theorem `one_packet`)
abbrev pub OnePacket : Type 0
OnePacket =
    (d e : Day) (g h : Given) → AlikeStates d e → SameSizes g h → AlikeDays d.elements (pending d g.packet) (pending e h.packet)
    → SamePacket d e g h

-- ---- packets one after another, whichever of them are refused

-- each two have the same sizes, and complete alike records
unfoldable pub GivenAlike : Day → Day → List Given → List Given → Type 0
GivenAlike d e [] [] = Unit {0}
GivenAlike d e [] (h ∷ hs) = ⊥
GivenAlike d e (g ∷ gs) [] = ⊥
GivenAlike d e (g ∷ gs) (h ∷ hs) =
    SameSizes g h × AlikeDays d.elements (pending d g.packet) (pending e h.packet) × GivenAlike (day_behind d g) (day_behind e h) gs hs

-- each two are taken alike
unfoldable pub SameTaken : Day → Day → List Given → List Given → Type 0
SameTaken d e [] [] = Unit {0}
SameTaken d e [] (h ∷ hs) = ⊥
SameTaken d e (g ∷ gs) [] = ⊥
SameTaken d e (g ∷ gs) (h ∷ hs) = SamePacket d e g h × SameTaken (day_behind d g) (day_behind e h) gs hs

-- theorem `many_packets`
abbrev pub ManyPackets : Type 0
ManyPackets = (d e : Day) (gs hs : List Given) → AlikeStates d e → GivenAlike d e gs hs → SameTaken d e gs hs

-- ---- closing

-- refused alike, or both accepted with the same trailer
pub record SameClosing (d e : Day) (last last' : List ℕ) : Type 0 where
  pub same_outcome : (closing_step d (length last)).outcome ≡ (closing_step e (length last')).outcome
  pub same_trailer : (closing_step d (length last)).outcome ≡ Ok tt
      → take (trailer_size Bytes24) (closing_output d last) ≡ take (trailer_size Bytes24) (closing_output e last')

-- from any two alike states, with the same room for the trailer (theorem `closing`)
abbrev pub Closing : Type 0
Closing = (d e : Day) (last last' : List ℕ) → AlikeStates d e → length last ≡ length last' → SameClosing d e last last'

-- ---- a day

-- the same length of each packet, and the same room of each output
unfoldable pub CutAlike : List Given → List Given → Type 0
CutAlike [] [] = Unit {0}
CutAlike [] (h ∷ hs) = ⊥
CutAlike (g ∷ gs) [] = ⊥
CutAlike (g ∷ gs) (h ∷ hs) = SameSizes g h × CutAlike gs hs

-- packet by packet, up to the first that is refused: what comes behind it completes other records than in the days joined
unfoldable pub PacketByPacket : Day → Day → List Given → List Given → Type 0
PacketByPacket d e [] [] = Unit {0}
PacketByPacket d e [] (h ∷ hs) = ⊥
PacketByPacket d e (g ∷ gs) [] = ⊥
PacketByPacket d e (g ∷ gs) (h ∷ hs) = SamePacket d e g h × (outcome_of d g ≡ Ok tt → PacketByPacket (day_behind d g) (day_behind e h) gs hs)

-- two finished files of n labels
pub record SameFinished (n : ℕ) (file file' : List ℕ) : Type 0 where
  pub same_length : length file ≡ length file'
  pub same_files : SameFiles 0 n (length file) file file'

-- where all packets of the first day are accepted: so are those of the second; closing; and where that is accepted too, the files
pub record SameDay (d : Day) (gs hs : List Given) (last last' : List ℕ) : Type 0 where
  pub all_accepted : AllAccepted d hs
  pub same_closing : SameClosing (day_from d gs) (day_from d hs) last last'
  pub finished : (closing_step (day_from d gs) (length last)).outcome ≡ Ok tt → SameFinished (records (all_bytes gs)) (file_from d gs last) (file_from d hs last')

pub record NoLeakIn (d : Day) (gs hs : List Given) (last last' : List ℕ) : Type 0 where
  pub packet_by_packet : PacketByPacket d d gs hs
  pub same_day : AllAccepted d gs → SameDay d gs hs last last'

-- two alike days that are cut alike, opened with the same elements, and the same room for the trailer (theorem `in_packets`)
abbrev pub InPackets : Type 0
InPackets =
    (el : Elements) (gs hs : List Given) (last last' : List ℕ) → (opening_step el).outcome ≡ Ok tt → AlikeDays el (all_bytes gs) (all_bytes hs) → CutAlike gs hs
    → length last ≡ length last' → NoLeakIn (opening_step el).day gs hs last last'

-- ---- a day of which some packets are refused

-- the packets that are accepted
abbrev pub kept_by : Result Unit RefusedAt → Given → List Given → List Given
kept_by (Ok tt) g gs = g ∷ gs
kept_by (Err error) g gs = gs

unfoldable pub kept : Day → List Given → List Given
kept d [] = []
kept d (g ∷ gs) = kept_by (outcome_of d g) g (kept (day_behind d g) gs)

-- the states are those of the packets that are accepted, as if the others had not come; and what these have the same
pub record SameKept (d : Day) (gs hs : List Given) (last last' : List ℕ) : Type 0 where
  pub day_is : day_from d gs ≡ day_from d (kept d gs)
  pub day_is' : day_from d hs ≡ day_from d (kept d hs)
  pub all_accepted : AllAccepted d (kept d gs)
  pub same_day : SameDay d (kept d gs) (kept d hs) last last'

-- where each two packets, as the states take them, complete alike records (theorem `some_refused`)
abbrev pub SomeRefused : Type 0
SomeRefused =
    (el : Elements) (gs hs : List Given) (last last' : List ℕ) → let d = (opening_step el).day in (opening_step el).outcome ≡ Ok tt → GivenAlike d d gs hs → length last ≡ length last'
    → SameKept d gs hs last last'
