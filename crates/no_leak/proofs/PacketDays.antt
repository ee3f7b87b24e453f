-- Alike days in packets that are cut alike, from the opening to the finished files. Assumes nothing.
use mathlib.Core.Path.{◌≡◌, refl, sym, ap, subst, ◌∙◌}
use mathlib.Core.List.{List, [], ◌∷◌, ◌++◌, append_assoc, append-nil}
use Prim.Native.Nat.{ℕ}
use native.Mathlib.Omega.{arith}
use lib.ListN.{length, length-append}
use lib.Seq.{drop-length}
use Rattle.elements.specs.declared.Elements.{Elements}
use Rattle.trailer.specs.Trailer.{distance_back}
use Rattle.trailer.specs.declared.Counts.{Counts}
use Rattle.trailer.specs.declared.Form.TheVariants.{Bytes24}
use Rattle.labelling.specs.Records.{records}
use Rattle.labelling.specs.Day.{output_after}
use Rattle.labelling.proofs.WrittenFile.{end_is}
use Rattle.packets.specs.declared.Day.{Day}
use Rattle.packets.specs.Day.{opening_step}
use Rattle.packets.specs.Packet.{pending, unfinished}
use Rattle.packets.specs.SoFar.{day_after, SoFar}
use Rattle.packets.specs.Cutting.{Given, all_bytes, day_behind, day_from, AllAccepted, file_from, OneGo}
use Rattle.packets.proofs.CutBytes.{joined_is}
use Rattle.packets.proofs.EveryCut.{every_cut}
use Rattle.packets.proofs.TakenSoFar.{opening_makes, packet_keeps}
use Rattle.no_leak.specs.Alike.{AlikeDays}
use Rattle.no_leak.specs.Files.{SameFiles, FilesBy}
use Rattle.no_leak.specs.Packets.{AlikeStates, SameSizes, SamePacket, CutAlike, PacketByPacket, SameFinished, InPackets}
use Rattle.no_leak.proofs.AlikeRecords.{same_number, pending_alike}
use Rattle.no_leak.proofs.AtOnce.{labels_number, at_once}
use Rattle.no_leak.proofs.PacketSteps.{states_refl, one_packet, closing}
use Rattle.labelling.specs.declared.Labelled.{Labelled}
use Rattle.refusal.specs.declared.RefusedAt.{RefusedAt}
use Rattle.std.specs.Prelude.{Result}

-- ---- packets one after another

pub pending_is : (el : Elements) (bytes packet : List ℕ) (d : Day) → SoFar el bytes d → pending d packet ≡ unfinished bytes ++ packet
unfolding day_after
pending_is el bytes packet d s = ap (λ (x : Day). pending x packet) s.state_is ∙ joined_is (unfinished bytes) packet

pub elements_are : (el : Elements) (bytes : List ℕ) (d : Day) → SoFar el bytes d → d.elements ≡ el
unfolding day_after
elements_are el bytes d s = ap (λ (x : Day). x.elements) s.state_is

fed : (el : Elements) (bytes bytes' : List ℕ) (d e : Day) (gs hs : List Given) → SoFar el bytes d → SoFar el bytes' e → AlikeStates d e → length bytes ≡ length bytes' → AlikeDays el (bytes ++ all_bytes gs) (bytes' ++ all_bytes hs) → CutAlike gs hs
    → PacketByPacket d e gs hs
unfolding all_bytes CutAlike PacketByPacket
fed el bytes bytes' d e [] [] s t states as_long alike cut = tt
fed el bytes bytes' d e [] (h ∷ hs) s t states as_long alike cut = absurd cut
fed el bytes bytes' d e (g ∷ gs) [] s t states as_long alike cut = absurd cut
fed el bytes bytes' d e (g ∷ gs) (h ∷ hs) s t states as_long alike cut =
    let p = g.packet in
    let q = h.packet in
    let sizes : SameSizes g h = cut.0 in
    let waiting : AlikeDays d.elements (pending d p) (pending e q) =
    rw (elements_are el bytes d s, pending_is el bytes p d s, pending_is el bytes' q e t) (pending_alike el bytes bytes' p q (all_bytes gs) (all_bytes hs) as_long sizes.same_length alike) in
    let same = one_packet d e g h states sizes waiting in (
      same,
      λ accepted.
          fed el (bytes ++ p) (bytes' ++ q) (day_behind d g) (day_behind e h) gs hs (packet_keeps el bytes p d (length g.output) s accepted)
          (packet_keeps el bytes' q e (length h.output) t (sym same.same_outcome ∙ accepted)) same.alike_states (omega (arith, length-append bytes p, length-append bytes' q, sizes.same_length))
          (rw (append_assoc bytes p (all_bytes gs), append_assoc bytes' q (all_bytes hs)) alike) cut.1,
    )

-- where all of the first day are accepted
pub record AllTaken (d e : Day) (gs hs : List Given) : Type 0 where
  pub accepted : AllAccepted e hs
  pub states : AlikeStates (day_from d gs) (day_from e hs)

all_taken : (d e : Day) (gs hs : List Given) → AlikeStates d e → CutAlike gs hs → PacketByPacket d e gs hs → AllAccepted d gs → AllTaken d e gs hs
unfolding CutAlike PacketByPacket AllAccepted day_from
all_taken d e [] [] states cut packets accepted = record { accepted = tt; states = states }
all_taken d e [] (h ∷ hs) states cut packets accepted = absurd cut
all_taken d e (g ∷ gs) [] states cut packets accepted = absurd cut
all_taken d e (g ∷ gs) (h ∷ hs) states cut packets accepted =
    let same : SamePacket d e g h = packets.0 in
    let rest = all_taken (day_behind d g) (day_behind e h) gs hs same.alike_states cut.1 (packets.1 accepted.0) accepted.1 in
    record { accepted = (sym same.same_outcome ∙ accepted.0, rest.accepted); states = rest.states }

-- ---- the finished files

-- labelling at once writes a finished file over itself
over_itself : (el : Elements) (telemetry file : List ℕ) (counts : Counts) → OneGo el telemetry file counts → output_after el telemetry file ≡ file
over_itself el telemetry file counts o = o.written file (omega arith) ∙ ap (λ (l : List ℕ). file ++ l) (drop-length file) ∙ append-nil file

pub finished : (el : Elements) (one two file file' : List ℕ) (counts counts' : Counts) → AlikeDays el one two → OneGo el one file counts → OneGo el two file' counts' → SameFinished (records one) file file'
finished el one two file file' counts counts' alike o o' =
    let labelled = o.accepted (length file) (omega arith) in
    let labelled' = o'.accepted (length file') (omega arith) in
    let as_long = end_is el one file counts (length file) labelled ∙ ap (distance_back Bytes24) (same_number el one two alike) ∙ sym (end_is el two file' counts' (length file') labelled') in
    let files = subst (λ (a : Result Labelled RefusedAt). FilesBy a 0 (output_after el one file) (output_after el two file')) labelled (at_once el one two file file' alike as_long).same_files in
    record {
      same_length = as_long;
      same_files = rw (sym (labels_number el one (length file) counts (length file) labelled))
          (subst (λ (l : List ℕ). SameFiles 0 counts.labels (length file) l file') (over_itself el one file counts o)
          (subst (λ (l : List ℕ). SameFiles 0 counts.labels (length file) (output_after el one file) l) (over_itself el two file' counts' o') files));
    }

pub in_packets : InPackets
in_packets el gs hs last last' opened alike cut same_room =
    let d = (opening_step el).day in
    let start = opening_makes el opened in
    let packets = fed el [] [] d d gs hs start start (states_refl d) refl alike cut in
    record {
      packet_by_packet = packets;
      same_day = λ accepted.
          let taken = all_taken d d gs hs (states_refl d) cut packets accepted in
          let closed_alike = closing (day_from d gs) (day_from d hs) last last' taken.states same_room in
          record {
            all_accepted = taken.accepted;
            same_closing = closed_alike;
            finished = λ closed.
                finished el (all_bytes gs) (all_bytes hs) (file_from d gs last) (file_from d hs last') _ _ alike (every_cut el gs last opened accepted closed) (every_cut el hs last' opened taken.accepted (sym closed_alike.same_outcome ∙ closed));
          };
    }
