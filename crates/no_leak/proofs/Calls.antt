-- No leak, by the statuses and bytes of the C calls. Assumes nothing.
use mathlib.Core.Path.{◌≡◌, refl, sym, ap, subst, ◌∙◌}
use mathlib.Core.Bool.{Bool, true, false, ◌&&◌, cond}
use mathlib.Core.List.{List, ◌++◌}
use Prim.Native.Nat.{ℕ, ◌+◌, ◌≤◌}
use native.Mathlib.Omega.{arith}
use lib.Dec.{eqb}
use lib.ListN.{length, take, drop, replicate, length-append}
use Rattle.endian.specs.LittleEndian.{bytes4, bytes8, words}
use Rattle.elements.specs.declared.Elements.{Elements}
use Rattle.label.specs.Codec.{AllBytes}
use Rattle.trailer.specs.Counts.{counts_of}
use Rattle.trailer.specs.Trailer.{trailer_size}
use Rattle.trailer.specs.declared.Counts.{Counts}
use Rattle.trailer.proofs.Tallies.{counts_bounded, plus_bounded, plus_number}
use Rattle.labelling.specs.Adding.{adding, buffer_after}
use Rattle.labelling.specs.Day.{labelling, output_after}
use Rattle.labelling.specs.Records.{label_at, labelled_to}
use Rattle.labelling.proofs.WrittenFile.{end_is}
use Rattle.packets.specs.Packet.{pending, completed, unfinished, padded, next_day, packet_step, packet_output}
use Rattle.packets.specs.Closing.{closing_step, closing_output}
use Rattle.packets.specs.Cutting.{Given, day_behind}
use Rattle.packets.specs.declared.Day.{Day}
use Rattle.packets.specs.declared.Step.{Step}
use Rattle.packets.proofs.Steps.{taken_whole}
use Rattle.elements_buffer.specs.Buffer.{elements_bytes, elements_of}
use Rattle.buffers.specs.Answers.{counts_bytes, add_bytes}
use Rattle.elements_buffer.proofs.ElementsBack.{elements_held}
use Rattle.day_buffer.specs.State.{day_of, day_bytes}
use Rattle.day_buffer.proofs.DaysBack.{day_back}
use Rattle.figures_buffer.specs.FigureBytes.{figures_in}
use Rattle.statuses.specs.Call.{call_of, BufferOutcome, rejected, written, buffer_call_of}
use Rattle.yurdelmiz.specs.Calls.{label_outcome, day_outcome, label_call, add_outcome, add_call, scale_outcome, scale_call, step_outcome, packet_call, close_call}
use Rattle.yurdelmiz.proofs.AcceptedCalls.{Ending, accepted, BufferEnding, buffer_accepted, label_accepted, add_accepted}
use Rattle.yurdelmiz.proofs.CutDays.{step_by, taken}
use Rattle.no_leak.specs.Files.{SameFiles, FilesBy}
use Rattle.no_leak.specs.Adding.{file_for}
use Rattle.no_leak.specs.Packets.{AlikeStates, outcome_of, SamePacket}
use Rattle.no_leak.specs.Calls.{SameCalled, LabelCalls, AddCalls, SamePacketCalled, PacketCalls, CloseCalls}
use Rattle.no_leak.proofs.AtOnce.{labels_number, at_once}
use Rattle.no_leak.proofs.Adding.{added, added_sizes}
use Rattle.no_leak.proofs.PacketSteps.{allowed_bare, one_packet, closing}
use Rattle.labelling.specs.declared.Labelled.{Labelled}
use Rattle.refusal.specs.declared.RefusedAt.{RefusedAt}
use Rattle.scale.specs.declared.Figures.{Figures}
use Rattle.std.specs.Prelude.{Err, Ok, Result}

-- ---- yurdelmiz_scale

pub files_called : {first n size : ℕ} {one two : List ℕ} → SameFiles first n size one two → SameCalled first n size one two
unfolding scale_call
files_called s =
    record {
      same_training = s.same_training;
      same_figures = λ figures. ap (λ (x : Result Figures RefusedAt). call_of (eqb (length figures) 48) (scale_outcome x) figures) (s.same_figures (figures_in figures));
    }

-- ---- yurdelmiz_label

-- the status depends on the answer alone
label_status : (lengths : Bool) (a : Result Labelled RefusedAt) (after after' output output' : List ℕ) → (call_of lengths (label_outcome a after) output).status ≡ (call_of lengths (label_outcome a after') output').status
unfolding call_of
label_status false a after after' output output' = refl
label_status true (Ok labelled') after after' output output' = refl
label_status true (Err refused) after after' output output' = refl

label_answer : (elements telemetry output : List ℕ) (counts : Counts) (size : ℕ) → (label_call elements telemetry output).status ≡ 0 → labelling (elements_of elements) telemetry (length output) ≡ Ok (labelled_to counts size)
    → (label_call elements telemetry output).answer ≡ output_after (elements_of elements) telemetry output
unfolding label_call day_outcome
label_answer elements telemetry output counts size e labelled =
    subst (λ (a : Result Labelled RefusedAt). Ending (label_outcome a (output_after (elements_of elements) telemetry output)) (label_call elements telemetry output).answer) labelled (accepted _ _ output e)

pub label_calls : LabelCalls
unfolding label_call day_outcome
label_calls elements one two output output' alike same_room =
    let el = elements_of elements in
    let leak = at_once el one two output output' alike same_room in
    let status : (label_call elements one output).status ≡ (label_call elements two output').status =
    label_status (eqb (length elements) 52) (labelling el one (length output)) (output_after el one output) (output_after el two output') output output'
    ∙ ap (λ (a : Result Labelled RefusedAt). (call_of (eqb (length elements) 52) (label_outcome a (output_after el two output')) output').status) leak.same_answer in
    record {
      same_status = status;
      same_files = λ ended.
          let l = label_accepted elements one output ended in
          let files = subst (λ (a : Result Labelled RefusedAt). FilesBy a 0 (output_after el one output) (output_after el two output')) l.labelled leak.same_files in
          rw (sym (end_is el one output l.counts l.end l.labelled), sym (labels_number el one (length output) l.counts l.end l.labelled), label_answer elements one output l.counts l.end ended l.labelled, label_answer elements two output' l.counts l.end (sym status ∙ ended) (sym leak.same_answer ∙ l.labelled))
          (files_called files);
    }

-- ---- calls that write a buffer beside their answer

abbrev status_of : BufferOutcome → ℕ
status_of (rejected status) = status
status_of (written after bytes) = 0

status_is : (lengths : Bool) (outcome : BufferOutcome) (buffer answer : List ℕ) → (buffer_call_of lengths outcome buffer answer).status ≡ cond lengths (status_of outcome) 255
unfolding buffer_call_of
status_is false outcome buffer answer = refl
status_is true (rejected status) buffer answer = refl
status_is true (written after bytes) buffer answer = refl

-- ---- yurdelmiz_add

add_status : (a : Result Labelled RefusedAt) (after after' : List ℕ) → status_of (add_outcome a after) ≡ status_of (add_outcome a after')
add_status (Ok labelled') after after' = refl
add_status (Err refused) after after' = refl

module _ (elements buffer buffer' : List ℕ) (used used' : ℕ) (more more' answer answer' : List ℕ) (same_answer : adding (elements_of elements) buffer used more ≡ adding (elements_of elements) buffer' used' more') (as_long : length answer ≡ length answer') where
  abbrev el : Elements
  el = elements_of elements

  same_status : (add_call elements buffer used more answer).status ≡ (add_call elements buffer' used' more' answer').status
  unfolding add_call
  same_status =
      status_is _ _ buffer answer
      ∙ (λ i. cond (eqb (length elements) 52 && eqb (as_long i) 28) (status_of (add_outcome (same_answer i) (buffer_after el buffer used more))) 255)
      ∙ ap (λ (s : ℕ). cond (eqb (length elements) 52 && eqb (length answer') 28) s 255) (add_status (adding el buffer' used' more') (buffer_after el buffer used more) (buffer_after el buffer' used' more'))
      ∙ sym (status_is _ _ buffer' answer')

  add_ended : (counts : Counts) (size : ℕ) → adding (elements_of elements) buffer' used' more' ≡ Ok (labelled_to counts size) → (add_call elements buffer' used' more' answer').status ≡ 0
      → ((add_call elements buffer' used' more' answer').buffer ≡ buffer_after (elements_of elements) buffer' used' more') × ((add_call elements buffer' used' more' answer').answer ≡ add_bytes counts size)
  unfolding add_call
  add_ended counts size e ended =
      subst (λ (a : Result Labelled RefusedAt). BufferEnding (add_outcome a (buffer_after el buffer' used' more')) (add_call elements buffer' used' more' answer')) e (buffer_accepted _ _ buffer' answer' ended)

pub add_calls : AddCalls
add_calls elements one two more more' front front' rest rest' output answer answer' form alike labelled alike_more as_much as_much_behind as_long =
    let el = elements_of elements in
    let l = label_accepted elements one output labelled in
    let leak = added el one two more more' front front' rest rest' form (length output) l.end l.counts alike l.labelled alike_more as_much as_much_behind in
    let buffer = front ++ (file_for el form one ++ rest) in
    let buffer' = front' ++ (file_for el form two ++ rest') in
    let used = length front + length (file_for el form one) in
    let used' = length front' + length (file_for el form two) in
    let status = same_status elements buffer buffer' used used' more more' answer answer' leak.same_answer as_long in (
      status,
      λ ended.
          let a = add_accepted elements buffer used more answer ended in
          let b = add_ended elements buffer buffer' used used' more more' answer answer' leak.same_answer as_long a.counts a.end (sym leak.same_answer ∙ a.added) (sym status ∙ ended) in
          let files = subst (λ (x : Result Labelled RefusedAt). FilesBy x (length front) (buffer_after el buffer used more) (buffer_after el buffer' used' more')) a.added leak.same_files in
          let sizes = added_sizes el one two more more' front front' rest rest' form (length output) l.end l.counts alike l.labelled alike_more as_much as_much_behind a.counts a.end a.added in
          record {
            same_answer = a.answer_is ∙ sym b.1;
            same_files = rw (a.buffer_is, b.0, sym sizes.1, sym sizes.0) (files_called files);
          },
    )

-- ---- yurdelmiz_packet and yurdelmiz_close

step_status : (o : Result Unit RefusedAt) (d d' : Day) (after after' : List ℕ) → status_of (step_outcome o d after) ≡ status_of (step_outcome o d' after')
step_status (Ok tt) d d' after after' = refl
step_status (Err refused) d d' after after' = refl

-- two calls on days as long as each other, whose steps have one outcome
module _ (day day' output output' : List ℕ) (as_long : length day ≡ length day') (next next' : Day) (after after' : List ℕ) where
  statuses_same : {o o' : Result Unit RefusedAt} → o ≡ o' → (buffer_call_of (eqb (length day) 89) (step_outcome o next after) output day).status ≡ (buffer_call_of (eqb (length day') 89) (step_outcome o' next' after') output' day').status
  statuses_same {o} {o'} same =
      status_is _ _ output day
      ∙ (λ i. cond (eqb (as_long i) 89) (status_of (step_outcome (same i) next after)) 255)
      ∙ ap (λ (s : ℕ). cond (eqb (length day') 89) s 255) (step_status o' next next' after after')
      ∙ sym (status_is _ _ output' day')

  -- what holds of the days before them, and of the bytes of the states behind them, holds of their answers
  module _ (R : List ℕ → List ℕ → Type 0) where
    by_cases : (lengths : Bool) (o : Result Unit RefusedAt) → R day day' → (o ≡ Ok tt → R (day_bytes next) (day_bytes next'))
        → R (buffer_call_of lengths (step_outcome o next after) output day).answer (buffer_call_of lengths (step_outcome o next' after') output' day').answer
    unfolding buffer_call_of
    by_cases false o before behind = before
    by_cases true (Err refused) before behind = before
    by_cases true (Ok tt) before behind = behind refl

    in_answers : {o o' : Result Unit RefusedAt} → o ≡ o' → R day day' → (o ≡ Ok tt → R (day_bytes next) (day_bytes next'))
        → R (buffer_call_of (eqb (length day) 89) (step_outcome o next after) output day).answer (buffer_call_of (eqb (length day') 89) (step_outcome o' next' after') output' day').answer
    in_answers {o} {o'} same before behind = rw (sym as_long, sym same) (by_cases (eqb (length day) 89) o before behind)

-- the bytes of a state are 74 and those held
day_length : (d : Day) → length (day_bytes d) ≡ 74 + length d.held
unfolding day_bytes elements_bytes counts_bytes words bytes8 bytes4
day_length d = omega arith

-- behind an accepted packet, zeros fill up what is held
held_length : (d : Day) (g : Given) → outcome_of d g ≡ Ok tt → length (day_behind d g).held ≡ (day_behind d g).have + length (drop {A = ℕ} (day_behind d g).have (replicate 15 0))
unfolding next_day padded
held_length d g accepted =
    let rest = unfinished (pending d g.packet) in
    subst (λ (s : Step). length s.day.held ≡ s.day.have + length (drop {A = ℕ} s.day.have (replicate 15 0))) (sym (taken_whole d g.packet (length g.output) accepted).step_is)
    (length-append rest (drop (length rest) (replicate 15 0)))

bytes_as_long : (d e : Day) (g h : Given) → outcome_of d g ≡ Ok tt → outcome_of e h ≡ Ok tt → (day_behind d g).have ≡ (day_behind e h).have → length (day_bytes (day_behind d g)) ≡ length (day_bytes (day_behind e h))
bytes_as_long d e g h accepted accepted' have =
    day_length (day_behind d g) ∙ ap (λ (n : ℕ). 74 + n) (held_length d g accepted ∙ (λ i. have i + length (drop {A = ℕ} (have i) (replicate 15 0))) ∙ sym (held_length e h accepted')) ∙ sym (day_length (day_behind e h))

-- the bytes of the state behind an accepted packet say it again
next_back : (day packet : List ℕ) (room : ℕ) → AllBytes day → (packet_step (day_of day) packet room).outcome ≡ Ok tt → day_of (day_bytes (packet_step (day_of day) packet room).day) ≡ (packet_step (day_of day) packet room).day
unfolding next_day day_of
next_back day packet room all e =
    let d = day_of day in
    let whole = taken_whole d packet room e in
    let counts = counts_of (label_at d.elements (pending d packet)) (completed d packet) in
    let few : (next_day d packet).counts.labels ≤ 1024 = omega (arith, plus_number d.counts (label_at d.elements (pending d packet)) (completed d packet), whole.few) in
    let back = day_back (next_day d packet) (elements_held day all.byte) (plus_bounded d.counts counts (allowed_bare d whole.allowed).bounded (counts_bounded (label_at d.elements (pending d packet)) (completed d packet))) few in
    subst (λ (x : Day). day_of (day_bytes x) ≡ x) (sym (ap (λ (s : Step). s.day) whole.step_is)) back

-- two packets that are taken alike, where the bytes of the states behind them say these again
pub packet_called : (day day' : List ℕ) (g h : Given) → length day ≡ length day' → AlikeStates (day_of day) (day_of day') → SamePacket (day_of day) (day_of day') g h
    → (outcome_of (day_of day) g ≡ Ok tt → day_of (day_bytes (day_behind (day_of day) g)) ≡ day_behind (day_of day) g)
    → (outcome_of (day_of day') h ≡ Ok tt → day_of (day_bytes (day_behind (day_of day') h)) ≡ day_behind (day_of day') h) → SamePacketCalled day day' g h
unfolding packet_call
packet_called day day' g h as_long states same back back' =
    let d = day_of day in
    let e = day_of day' in
    let next = day_behind d g in
    let next' = day_behind e h in
    let after = packet_output d g.packet g.output in
    let after' = packet_output e h.packet h.output in
    let status = statuses_same day day' g.output h.output as_long next next' after after' same.same_outcome in
    record {
      same_status = status;
      same_training = λ ended.
          let t = taken day g.packet g.output ended in
          let t' = taken day' h.packet h.output (sym status ∙ ended) in
          rw (t.1, t'.1) (same.same_training t.0);
      as_long = in_answers day day' g.output h.output as_long next next' after after' (λ (a b : List ℕ). length a ≡ length b) same.same_outcome as_long
          (λ accepted. bytes_as_long d e g h accepted (sym same.same_outcome ∙ accepted) same.alike_states.same_have);
      alike_states = in_answers day day' g.output h.output as_long next next' after after' (λ (a b : List ℕ). AlikeStates (day_of a) (day_of b)) same.same_outcome states
          (λ accepted. rw (back accepted, back' (sym same.same_outcome ∙ accepted)) same.alike_states);
    }

pub packet_calls : PacketCalls
packet_calls day day' g h all all' as_long states sizes alike =
    packet_called day day' g h as_long states (one_packet (day_of day) (day_of day') g h states sizes alike) (next_back day g.packet (length g.output) all) (next_back day' h.packet (length h.output) all')

pub close_calls : CloseCalls
unfolding close_call trailer_size
close_calls day day' last last' as_long states same_room =
    let d = day_of day in
    let e = day_of day' in
    let same = closing d e last last' states same_room in
    let status = statuses_same day day' last last' as_long (closing_step d (length last)).day (closing_step e (length last')).day (closing_output d last) (closing_output e last') same.same_outcome in (
      status,
      λ ended.
          let t = step_by (close_call day last) (closing_step d (length last)).outcome (closing_step d (length last)).day (closing_output d last) (buffer_accepted _ _ last day ended) in
          let t' = step_by (close_call day' last') (closing_step e (length last')).outcome (closing_step e (length last')).day (closing_output e last') (buffer_accepted _ _ last' day' (sym status ∙ ended)) in
          ap (take 24) t.1 ∙ same.same_trailer t.0 ∙ sym (ap (take 24) t'.1),
    )
