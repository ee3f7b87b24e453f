-- Every way of cutting a day into packets, by the statuses and bytes of calls. Assumes nothing.
use mathlib.Core.Path.{◌≡◌, refl, sym, ap, subst, ◌∙◌}
use Prim.Native.Nat.{ℕ, ◌*◌, ◌-◌, ◌<◌}
use native.Mathlib.Omega.{arith}
use mathlib.Core.Bool.{Bool, true, false}
use mathlib.Core.List.{List, [], ◌∷◌, ◌++◌}
use lib.Dec.{eqb}
use lib.ListN.{length, get_or, take}
use lib.Seq.{take-length}
use borrow.Author.Tests.{eq-eqb, eqb-true}
use Rattle.integer.proofs.Tests.{and_true}
use Rattle.refusal.proofs.Numbers.{never_0}
use Rattle.elements.specs.declared.Elements.{Elements}
use Rattle.elements.specs.Contract.{Held}
use Rattle.label.specs.Layout.{label_size}
use Rattle.label_file.specs.Reading.{file_reading}
use Rattle.trailer.specs.Trailer.{trailer_size}
use Rattle.label_file.proofs.Readings.{read_within}
use Rattle.trailer.proofs.Tallies.{counts_bounded, counts_number, plus_number}
use Rattle.labelling.specs.Day.{output_after}
use Rattle.labelling.specs.Records.{records, label_at}
use Rattle.packets.specs.Day.{opening_step}
use Rattle.packets.specs.Packet.{pending, completed, next_day, packet_step, packet_output}
use Rattle.packets.specs.Closing.{closing_step, closing_output}
use Rattle.packets.specs.SoFar.{day_after, SoFar}
use Rattle.packets.specs.Cutting.{Given, all_bytes, day_from, AllAccepted, labels_from, file_from, OneGo}
use Rattle.packets.specs.declared.Day.{Day}
use Rattle.packets.specs.declared.Step.{Step}
use Rattle.packets.proofs.Steps.{taken_whole}
use Rattle.packets.proofs.TakenSoFar.{opening_makes, packet_keeps}
use Rattle.packets.proofs.EveryCut.{every_cut}
use Rattle.elements_buffer.specs.Buffer.{elements_of}
use Rattle.elements_buffer.proofs.ElementsBack.{elements_held}
use Rattle.day_buffer.specs.State.{counts_in, day_of, day_bytes}
use Rattle.day_buffer.proofs.DaysBack.{day_back}
use Rattle.statuses.specs.Call.{Call, Outcome as CallOutcome, call_of, BufferCall}
use Rattle.yurdelmiz.specs.Calls.{label_outcome, day_outcome, label_call, read_outcome, read_call, open_outcome, open_call, step_outcome, packet_call, close_call}
use Rattle.yurdelmiz.specs.CutDay.{takes, day_labels, day_called, AllEnd, labels_called, CutDay}
use Rattle.statuses.proofs.Endings.{ends_given}
use Rattle.yurdelmiz.proofs.AcceptedCalls.{Ending, accepted, BufferEnding, buffer_accepted}
use Rattle.labelling.specs.declared.Labelled.{Labelled}
use Rattle.refusal.specs.declared.RefusedAt.{RefusedAt}
use Rattle.std.specs.Prelude.{Err, Ok, Result}

-- ---- a state in its bytes

pub state_back : (el : Elements) (bytes : List ℕ) (d : Day) → Held el → SoFar el bytes d → day_of (day_bytes d) ≡ d
unfolding day_after
state_back el bytes d held s =
    let label = label_at el bytes in
    let back = day_back (day_after el bytes) held (counts_bounded label (records bytes)) (omega (arith, counts_number label (records bytes), s.few)) in
    subst (λ (x : Day). day_of (day_bytes x) ≡ x) (sym s.state_is) back

-- ---- calls that ended with status 0

lengths_hold : (lengths : Bool) (outcome : CallOutcome) (buffer : List ℕ) → (call_of lengths outcome buffer).status ≡ 0 → lengths ≡ true
unfolding call_of
lengths_hold true outcome buffer e = refl
lengths_hold false outcome buffer e = absurd (omega arith)

-- of yurdelmiz_packet and yurdelmiz_close: the step was accepted, and the bytes are those of its output and its state
pub step_by : (call : BufferCall) (o : Result Unit RefusedAt) (d : Day) (after : List ℕ) → BufferEnding (step_outcome o d after) call → (o ≡ Ok tt) × (call.buffer ≡ after) × (call.answer ≡ day_bytes d)
step_by call (Err refused) d after g = absurd (omega (arith, never_0 refused.refusal))
step_by call (Ok tt) d after g = (refl, g.0, g.1)

module _ (day packet output : List ℕ) (ended : (packet_call day packet output).status ≡ 0) where
  abbrev d : Day
  d = day_of day

  pub taken : ((packet_step (day_of day) packet (length output)).outcome ≡ Ok tt) × ((packet_call day packet output).buffer ≡ packet_output (day_of day) packet output) × ((packet_call day packet output).answer ≡ day_bytes (packet_step (day_of day) packet (length output)).day)
  unfolding packet_call
  taken = step_by (packet_call day packet output) (packet_step d packet (length output)).outcome (packet_step d packet (length output)).day (packet_output d packet output) (buffer_accepted _ _ output day ended)

  module _ (el : Elements) (bytes : List ℕ) (held : Held el) (s : SoFar el bytes (day_of day)) where
    next : SoFar el (bytes ++ packet) (packet_step (day_of day) packet (length output)).day
    next = packet_keeps el bytes packet d (length output) s taken.0

    pub answer_is : day_of (packet_call day packet output).answer ≡ (packet_step (day_of day) packet (length output)).day
    answer_is = ap day_of taken.2 ∙ state_back el (bytes ++ packet) _ held next

    -- as many labels as YURDELMIZ_DAY_LABELS has grown by
    growth : day_labels (packet_call day packet output).answer - day_labels day ≡ completed (day_of day) packet
    unfolding day_of counts_in next_day
    growth =
        let step = ap (λ (x : Step). x.day.counts.labels) (taken_whole d packet (length output) taken.0).step_is in
        let number = plus_number d.counts (label_at d.elements (pending d packet)) (completed d packet) in
        let after = ap (λ (x : Day). x.counts.labels) answer_is in
        omega (arith, step, number, after)

-- ---- packets one after another

pub record Called (day : List ℕ) (hs : List Given) : Type 0 where
  pub accepted : AllAccepted (day_of day) hs
  pub day_is : day_of (day_called day hs) ≡ day_from (day_of day) hs
  pub labels_are : labels_called day hs ≡ labels_from (day_of day) hs

called : (el : Elements) (bytes day : List ℕ) (hs : List Given) → Held el → SoFar el bytes (day_of day) → AllEnd day hs → Called day hs
unfolding AllEnd AllAccepted day_called day_from labels_called labels_from
called el bytes day [] held s ends = record { accepted = tt; day_is = refl; labels_are = refl }
called el bytes day (h ∷ hs) held s ends =
    let after = (takes day h).answer in
    let t = taken day h.packet h.output ends.0 in
    let is = answer_is day h.packet h.output ends.0 el bytes held s in
    let grown = growth day h.packet h.output ends.0 el bytes held s in
    let behind = next day h.packet h.output ends.0 el bytes held s in
    let rest = called el (bytes ++ h.packet) after hs held (subst (SoFar el (bytes ++ h.packet)) (sym is) behind) ends.1 in
    record {
      accepted = (t.0, subst (λ (x : Day). AllAccepted x hs) is rest.accepted);
      day_is = rest.day_is ∙ ap (λ (x : Day). day_from x hs) is;
      labels_are = λ i. take (label_size * grown i) (t.1 i) ++ (rest.labels_are ∙ ap (λ (x : Day). labels_from x hs) is) i;
    }

-- ---- from the opening to the closing

open_by : (o : Result Unit RefusedAt) (d : Day) (answer : List ℕ) → Ending (open_outcome o d) answer → (o ≡ Ok tt) × (answer ≡ day_bytes d)
open_by (Err refused) d answer g = absurd (omega (arith, never_0 refused.refusal))
open_by (Ok tt) d answer g = (refl, g)

module _ (elements day : List ℕ) (below : (i : ℕ) → get_or elements i 0 < 256) (ended : (open_call elements day).status ≡ 0) where
  abbrev el : Elements
  el = elements_of elements

  pub opened : ((opening_step (elements_of elements)).outcome ≡ Ok tt) × ((open_call elements day).answer ≡ day_bytes (opening_step (elements_of elements)).day)
  unfolding open_call
  opened = open_by (opening_step el).outcome (opening_step el).day _ (accepted _ _ day ended)

  long : length elements ≡ 52
  unfolding open_call
  long = eqb-true _ _ (and_true (eqb (length elements) 52) (eqb (length day) 89) (lengths_hold _ _ day ended)).0

  pub first : day_of (open_call elements day).answer ≡ (opening_step (elements_of elements)).day
  first = ap day_of opened.1 ∙ state_back el [] _ (elements_held elements below) (opening_makes el opened.0)

  module _ (hs : List Given) (last : List ℕ) (ends : AllEnd (open_call elements day).answer hs) (closes : (close_call (day_called (open_call elements day).answer hs) last).status ≡ 0) where
    abbrev bytes : List ℕ
    bytes = day_called (open_call elements day).answer hs

    all : Called (open_call elements day).answer hs
    all = called el [] (open_call elements day).answer hs (elements_held elements below) (subst (SoFar el []) (sym first) (opening_makes el opened.0)) ends

    last_is : day_of (day_called (open_call elements day).answer hs) ≡ day_from (opening_step (elements_of elements)).day hs
    last_is = all.day_is ∙ ap (λ (x : Day). day_from x hs) first

    closed : ((closing_step (day_of (day_called (open_call elements day).answer hs)) (length last)).outcome ≡ Ok tt) × ((close_call (day_called (open_call elements day).answer hs) last).buffer ≡ closing_output (day_of (day_called (open_call elements day).answer hs)) last)
    unfolding close_call
    closed =
        let d = day_of bytes in
        let by = step_by (close_call bytes last) (closing_step d (length last)).outcome (closing_step d (length last)).day (closing_output d last) (buffer_accepted _ _ last bytes closes) in
        (by.0, by.1)

    file_is : labels_called (open_call elements day).answer hs ++ take 24 (close_call (day_called (open_call elements day).answer hs) last).buffer ≡ file_from (opening_step (elements_of elements)).day hs last
    unfolding trailer_size
    file_is = λ i. (all.labels_are ∙ ap (λ (x : Day). labels_from x hs) first) i ++ take 24 ((closed.1 ∙ ap (λ (x : Day). closing_output x last) last_is) i)

    pub one_go : OneGo (elements_of elements) (all_bytes hs) (labels_called (open_call elements day).answer hs ++ take 24 (close_call (day_called (open_call elements day).answer hs) last).buffer) (day_from (opening_step (elements_of elements)).day hs).counts
    one_go =
        let closing = ap (λ (x : Day). (closing_step x (length last)).outcome) (sym last_is) ∙ closed.0 in
        subst (λ (f : List ℕ). OneGo el (all_bytes hs) f (day_from (opening_step el).day hs).counts) (sym file_is)
        (every_cut el hs last opened.0 (subst (λ (x : Day). AllAccepted x hs) first all.accepted) closing)

pub cut_day : CutDay
unfolding label_call day_outcome read_call
cut_day elements day hs last below ended ends closes =
    let go = one_go elements day below ended hs last ends closes in
    let file = labels_called (open_call elements day).answer hs ++ take 24 (close_call (day_called (open_call elements day).answer hs) last).buffer in
    let el = elements_of elements in
    record {
      labelled = λ output enough.
          sym (ends_given _ _ output (sym (go.written output enough)) (eq-eqb _ 52 (long elements day below ended))
          (ap (λ (a : Result Labelled RefusedAt). label_outcome a (output_after el (all_bytes hs) output)) (go.accepted (length output) enough)));
      reads = λ out h.
          let whole = read_within file (length file) (omega arith) ∙ ap file_reading (take-length file) ∙ go.reads_back.accepted [] in
          ap (λ (c : Call). c.status) (sym (ends_given _ _ out refl (eq-eqb _ 24 h) (ap read_outcome whole)));
    }
