-- Alike days in packets, by the statuses and bytes of the C calls, from the opening to the finished files. Assumes nothing.
use mathlib.Core.Path.{◌≡◌, refl, sym, subst, ◌∙◌}
use mathlib.Core.List.{List, [], ◌∷◌, ◌++◌}
use Prim.Native.Nat.{ℕ}
use lib.ListN.{length}
use Rattle.elements.specs.declared.Elements.{Elements}
use Rattle.elements.specs.Contract.{Held}
use Rattle.packets.specs.SoFar.{SoFar}
use Rattle.packets.specs.Cutting.{Given, day_behind}
use Rattle.packets.proofs.TakenSoFar.{opening_makes, packet_keeps}
use Rattle.elements_buffer.specs.Buffer.{elements_of}
use Rattle.elements_buffer.proofs.ElementsBack.{elements_held}
use Rattle.day_buffer.specs.State.{day_of, day_bytes}
use Rattle.yurdelmiz.specs.Calls.{open_call}
use Rattle.yurdelmiz.specs.CutDay.{takes, day_called, AllEnd}
use Rattle.yurdelmiz.proofs.CutDays.{state_back, taken, answer_is, opened, first, one_go}
use Rattle.no_leak.specs.Packets.{AlikeStates, CutAlike, outcome_of, SamePacket, PacketByPacket}
use Rattle.no_leak.specs.Calls.{SamePacketCalled, CallByCall, DayCalls}
use Rattle.no_leak.proofs.PacketSteps.{states_refl}
use Rattle.no_leak.proofs.PacketDays.{finished, in_packets}
use Rattle.no_leak.proofs.Calls.{files_called, packet_called, close_calls}
use Rattle.std.specs.Prelude.{Ok}

-- ---- packets one after another

by_calls : (el : Elements) (bytes bytes' day day' : List ℕ) (gs hs : List Given) → Held el → SoFar el bytes (day_of day) → SoFar el bytes' (day_of day') → AlikeStates (day_of day) (day_of day') → length day ≡ length day'
    → PacketByPacket (day_of day) (day_of day') gs hs → CallByCall day day' gs hs
unfolding PacketByPacket CallByCall
by_calls el bytes bytes' day day' [] [] held s t states as_long packets = tt
by_calls el bytes bytes' day day' [] (h ∷ hs) held s t states as_long packets = absurd packets
by_calls el bytes bytes' day day' (g ∷ gs) [] held s t states as_long packets = absurd packets
by_calls el bytes bytes' day day' (g ∷ gs) (h ∷ hs) held s t states as_long packets =
    let d = day_of day in
    let e = day_of day' in
    let same : SamePacket d e g h = packets.0 in
    let back : outcome_of d g ≡ Ok tt → day_of (day_bytes (day_behind d g)) ≡ day_behind d g = λ accepted. state_back el (bytes ++ g.packet) (day_behind d g) held (packet_keeps el bytes g.packet d (length g.output) s accepted) in
    let back' : outcome_of e h ≡ Ok tt → day_of (day_bytes (day_behind e h)) ≡ day_behind e h = λ accepted. state_back el (bytes' ++ h.packet) (day_behind e h) held (packet_keeps el bytes' h.packet e (length h.output) t accepted) in
    let alike : SamePacketCalled day day' g h = packet_called day day' g h as_long states same back back' in (
      alike,
      λ ended.
          let ended' = sym alike.same_status ∙ ended in
          let p = taken day g.packet g.output ended in
          let q = taken day' h.packet h.output ended' in
          let is = answer_is day g.packet g.output ended el bytes held s in
          let is' = answer_is day' h.packet h.output ended' el bytes' held t in
          by_calls el (bytes ++ g.packet) (bytes' ++ h.packet) (takes day g).answer (takes day' h).answer gs hs held
          (subst (SoFar el (bytes ++ g.packet)) (sym is) (packet_keeps el bytes g.packet d (length g.output) s p.0))
          (subst (SoFar el (bytes' ++ h.packet)) (sym is') (packet_keeps el bytes' h.packet e (length h.output) t q.0))
          alike.alike_states alike.as_long
          (rw (is, is') (packets.1 p.0)),
    )

-- where all of the first day end with status 0
pub record AllCalled (day day' : List ℕ) (gs hs : List Given) : Type 0 where
  pub all_end : AllEnd day' hs
  pub as_long : length (day_called day gs) ≡ length (day_called day' hs)
  pub alike_states : AlikeStates (day_of (day_called day gs)) (day_of (day_called day' hs))

all_called : (day day' : List ℕ) (gs hs : List Given) → length day ≡ length day' → AlikeStates (day_of day) (day_of day') → CutAlike gs hs → CallByCall day day' gs hs → AllEnd day gs → AllCalled day day' gs hs
unfolding CutAlike CallByCall AllEnd day_called
all_called day day' [] [] as_long states cut calls ends = record { all_end = tt; as_long = as_long; alike_states = states }
all_called day day' [] (h ∷ hs) as_long states cut calls ends = absurd cut
all_called day day' (g ∷ gs) [] as_long states cut calls ends = absurd cut
all_called day day' (g ∷ gs) (h ∷ hs) as_long states cut calls ends =
    let alike : SamePacketCalled day day' g h = calls.0 in
    let rest = all_called (takes day g).answer (takes day' h).answer gs hs alike.as_long alike.alike_states cut.1 (calls.1 ends.0) ends.1 in
    record { all_end = (sym alike.same_status ∙ ends.0, rest.all_end); as_long = rest.as_long; alike_states = rest.alike_states }

-- ---- from the opening to the finished files

pub day_calls : DayCalls
day_calls elements day gs hs last last' all ended alike cut same_room =
    let el = elements_of elements in
    let start = (open_call elements day).answer in
    let held = elements_held elements all.byte in
    let accepted = (opened elements day all.byte ended).0 in
    let is = first elements day all.byte ended in
    let so_far = subst (SoFar el []) (sym is) (opening_makes el accepted) in
    let packets = (in_packets el gs hs last last' accepted alike cut same_room).packet_by_packet in
    let calls : CallByCall start start gs hs = by_calls el [] [] start start gs hs held so_far so_far (states_refl (day_of start)) refl (rw is packets) in (
      calls,
      λ ends.
          let both_end = all_called start start gs hs refl (states_refl (day_of start)) cut calls ends in
          let closing = close_calls (day_called start gs) (day_called start hs) last last' both_end.as_long both_end.alike_states same_room in
          record {
            all_end = both_end.all_end;
            same_status = closing.0;
            finished = λ closed.
                let files = finished el _ _ _ _ _ _ alike (one_go elements day all.byte ended gs last ends closed) (one_go elements day all.byte ended hs last' both_end.all_end (sym closing.0 ∙ closed)) in
                record { same_length = files.same_length; same_files = files_called files.same_files };
          },
    )
