-- Alike days in packets that are cut alike: one packet, packets one after another, and closing. Assumes nothing.
use mathlib.Core.Path.{◌≡◌, refl, sym, ap, subst, ◌∙◌}
use mathlib.Core.Bool.{Bool, true, false, not, ◌&&◌, cond}
use mathlib.Core.List.{List, [], ◌∷◌, ◌++◌}
use Prim.Native.Nat.{ℕ, ◌+◌, ◌*◌, ◌<◌}
use native.Mathlib.Omega.{arith}
use lib.Dec.{eqb, leb, ltb}
use lib.ListN.{length, take, drop, replicate, length-drop}
use lib.Seq.{take_at}
use Rattle.refusal.specs.declared.Refusal.{Refusal}
use Rattle.refusal.specs.declared.Refusal.TheVariants as refusal
use Rattle.elements.specs.Elements.{checked}
use Rattle.elements.specs.declared.Elements.{Elements}
use Rattle.telemetry.specs.Records.{record_size}
use Rattle.label.specs.Layout.{label_size}
use Rattle.sequence.specs.Sequence.{leading}
use Rattle.trailer.specs.Counts.{counts_of, ◌plus◌}
use Rattle.trailer.specs.Trailer.{trailer_size, trailer_bytes, counts_allowed}
use Rattle.trailer.specs.declared.Form.TheVariants.{Bytes24}
use Rattle.sequence.proofs.Sequences.{leading_holds}
use Rattle.trailer.proofs.Trailers.{trailer_length}
use Rattle.label_file.specs.File.{body_of}
use Rattle.labelling.specs.Records.{records, label_at, passes_at}
use Rattle.packets.specs.declared.Day.{Day}
use Rattle.packets.specs.declared.Step.{Step}
use Rattle.std.specs.Prelude.{is_ok}
use Rattle.packets.specs.Day.{day_allowed}
use Rattle.packets.specs.Packet.{pending, completed, next_day, refused_step, packet_step, packet_labels, packet_output, output_by}
use Rattle.packets.specs.Contract.{AllowedDay}
use Rattle.packets.specs.Closing.{closed_day, closing_step, closing_output}
use Rattle.packets.specs.Cutting.{Given, day_behind}
use Rattle.packets.proofs.AllowedDays.{allowed_says}
use Rattle.packets.proofs.Steps.{taken_whole}
use Rattle.no_leak.specs.Alike.{AlikeDays}
use Rattle.no_leak.specs.Files.{SameTraining}
use Rattle.no_leak.specs.Packets.{AlikeStates, SameSizes, outcome_of, OnePacket, GivenAlike, SameTaken, ManyPackets, Closing}
use Rattle.no_leak.proofs.AlikeRecords.{same_number, same_leading, same_counts, rules_one, rules_two, same_training}
use Rattle.no_leak.proofs.FilesInBuffers.{parts_alike}
use Rattle.refusal.specs.Refused.{refused_at}
use Rattle.refusal.specs.declared.RefusedAt.{RefusedAt}
use Rattle.std.specs.Prelude.{Err, Ok, Result}

-- ---- states

pub states_refl : (d : Day) → AlikeStates d d
states_refl d = record { same_elements = refl; same_counts = refl; same_closed = refl; same_have = refl }

allowed_alike : (d e : Day) → AlikeStates d e → day_allowed d ≡ day_allowed e
unfolding day_allowed
allowed_alike d e s =
    λ i. not (s.same_closed i) && is_ok (checked (s.same_elements i)) && leb (s.same_have i) 15 && leb (s.same_counts i).labels 1_024 && counts_allowed (s.same_counts i)

closed_alike : (d e : Day) → AlikeStates d e → AlikeStates (closed_day d) (closed_day e)
unfolding closed_day
closed_alike d e s = record { same_elements = s.same_elements; same_counts = s.same_counts; same_closed = refl; same_have = s.same_have }

-- what 24 leaves of a state, whatever bytes are held: it does not look at them
pub allowed_bare : (d : Day) → day_allowed d ≡ true → AllowedDay (record { elements = d.elements; counts = d.counts; closed = d.closed; have = d.have; held = replicate 15 0 })
unfolding day_allowed
allowed_bare d e = allowed_says (record { elements = d.elements; counts = d.counts; closed = d.closed; have = d.have; held = replicate 15 0 }) refl e

-- ---- a step by the tests of its refusals, in their order

pub record AlikeSteps (s t : Step) : Type 0 where
  pub same_outcome : s.outcome ≡ t.outcome
  pub alike_days : AlikeStates s.day t.day

abbrev step_by : Bool → Bool → Bool → Bool → ℕ → Day → Day → Step
step_by state many short late place d next =
    cond state (refused_step d refusal.Day 0)
    (cond many (refused_step d refusal.TelemetryLength 0)
    (cond short (refused_step d refusal.OutputLength 0)
    (cond late (refused_step d refusal.Time place) (record { day = next; outcome = Ok tt }))))

steps_alike : (state many short late : Bool) (place : ℕ) (d e next next' : Day) → AlikeStates d e → AlikeStates next next' → AlikeSteps (step_by state many short late place d next) (step_by state many short late place e next')
steps_alike true many short late place d e next next' before behind = record { same_outcome = refl; alike_days = before }
steps_alike false true short late place d e next next' before behind = record { same_outcome = refl; alike_days = before }
steps_alike false false true late place d e next next' before behind = record { same_outcome = refl; alike_days = before }
steps_alike false false false true place d e next next' before behind = record { same_outcome = refl; alike_days = before }
steps_alike false false false false place d e next next' before behind = record { same_outcome = refl; alike_days = behind }

-- a refusal leaves the state
step_leaves : (state many short late : Bool) (place : ℕ) (d next : Day) (r : Refusal) (p : ℕ) → (step_by state many short late place d next).outcome ≡ Err (refused_at r p) → (step_by state many short late place d next).day ≡ d
step_leaves true many short late place d next r p e = refl
step_leaves false true short late place d next r p e = refl
step_leaves false false true late place d next r p e = refl
step_leaves false false false true place d next r p e = refl
step_leaves false false false false place d next r p e = let z : ◌≡◌ {A = ℕ} 0 1 = cc in absurd (omega arith)

pub refused_leaves : (d : Day) (g : Given) (r : Refusal) (p : ℕ) → outcome_of d g ≡ Err (refused_at r p) → day_behind d g ≡ d
unfolding packet_step
refused_leaves d g r p e =
    let n = completed d g.packet in
    let lead = leading (passes_at d.elements (pending d g.packet)) n in
    step_leaves (not (day_allowed d)) (ltb 1_024 (d.counts.labels + n)) (ltb (length g.output) (label_size * n)) (ltb lead n) (d.counts.labels + lead) d (next_day d g.packet) r p e

-- ---- one packet

module _ (d e : Day) (g h : Given) (states : AlikeStates d e) (sizes : SameSizes g h) (alike : AlikeDays d.elements (pending d g.packet) (pending e h.packet)) where
  abbrev one : List ℕ
  one = pending d g.packet

  abbrev two : List ℕ
  two = pending e h.packet

  number : completed d g.packet ≡ completed e h.packet
  number = same_number d.elements one two alike

  passed : leading (passes_at d.elements (pending d g.packet)) (completed d g.packet) ≡ leading (passes_at e.elements (pending e h.packet)) (completed e h.packet)
  passed = same_leading d.elements one two alike ∙ ap (λ (el : Elements). leading (passes_at el two) (records two)) states.same_elements

  next : AlikeStates (next_day d g.packet) (next_day e h.packet)
  unfolding next_day
  next =
      let counted = same_counts d.elements one two alike ∙ ap (λ (el : Elements). counts_of (label_at el two) (records two)) states.same_elements in
      record {
        same_elements = states.same_elements;
        same_counts = λ i. states.same_counts i plus counted i;
        same_closed = refl;
        same_have = omega (arith, length-drop (record_size * records one) one, length-drop (record_size * records two) two, alike.same_length);
      }

  step : AlikeSteps (packet_step d g.packet (length g.output)) (packet_step e h.packet (length h.output))
  unfolding packet_step
  step =
      let n = completed d g.packet in
      let before = d.counts.labels in
      let lead = leading (passes_at d.elements one) n in
      let allowed = allowed_alike d e states in
      subst (AlikeSteps (packet_step d g.packet (length g.output)))
      (λ i. step_by (not (allowed i)) (ltb 1_024 ((states.same_counts i).labels + number i)) (ltb (sizes.same_room i) (label_size * number i)) (ltb (passed i) (number i)) ((states.same_counts i).labels + passed i) e (next_day e h.packet))
      (steps_alike (not (day_allowed d)) (ltb 1_024 (before + n)) (ltb (length g.output) (label_size * n)) (ltb lead n) (before + lead) d e (next_day d g.packet) (next_day e h.packet) states next)

  training_labels : outcome_of d g ≡ Ok tt → SameTraining (packet_output d g.packet g.output) (packet_output e h.packet h.output) (completed d g.packet)
  training_labels accepted =
      let el = d.elements in
      let n = completed d g.packet in
      let whole = taken_whole d g.packet (length g.output) accepted in
      let c = (allowed_bare d whole.allowed).elements in
      let passing : (k : ℕ) → k < n → passes_at el one k ≡ true = λ k b. leading_holds (passes_at el one) n k (omega (arith, whole.all)) in
      let written : packet_output d g.packet g.output ≡ body_of (label_at el one) n ++ drop (length (packet_labels d g.packet)) g.output = ap (λ (o : Result Unit RefusedAt). output_by o (packet_labels d g.packet) g.output) accepted in
      let written' : packet_output e h.packet h.output ≡ body_of (label_at el two) n ++ drop (length (packet_labels e h.packet)) h.output =
      ap (λ (o : Result Unit RefusedAt). output_by o (packet_labels e h.packet) h.output) (sym step.same_outcome ∙ accepted)
      ∙ (λ i. body_of (label_at (sym states.same_elements i) two) (sym number i) ++ drop (length (packet_labels e h.packet)) h.output) in
      rw (written, written') (parts_alike (label_at el one) (label_at el two) n (rules_one el one two alike c passing) (rules_two el one two alike c passing) (same_training el one two alike c passing) _ _)

pub one_packet : OnePacket
one_packet d e g h states sizes alike =
    record {
      same_outcome = (step d e g h states sizes alike).same_outcome;
      same_number = number d e g h states sizes alike;
      same_training = training_labels d e g h states sizes alike;
      alike_states = (step d e g h states sizes alike).alike_days;
    }

pub many_packets : ManyPackets
unfolding GivenAlike SameTaken
many_packets d e [] [] states alike = tt
many_packets d e [] (h ∷ hs) states alike = absurd alike
many_packets d e (g ∷ gs) [] states alike = absurd alike
many_packets d e (g ∷ gs) (h ∷ hs) states alike =
    let same = one_packet d e g h states alike.0 alike.1 in
    (same, many_packets (day_behind d g) (day_behind e h) gs hs same.alike_states alike.2)

-- ---- closing

pub closing : Closing
unfolding closing_step
closing d e last last' s same_room =
    let allowed = allowed_alike d e s in
    let same : (closing_step d (length last)).outcome ≡ (closing_step e (length last')).outcome =
    (steps_alike (not (day_allowed d)) (not (eqb d.have 0)) (ltb (length last) (trailer_size Bytes24)) false 0 d e (closed_day d) (closed_day e) s (closed_alike d e s)).same_outcome
    ∙ (λ i. (step_by (not (allowed i)) (not (eqb (s.same_have i) 0)) (ltb (same_room i) (trailer_size Bytes24)) false 0 e (closed_day e)).outcome) in
    let trailer : (x : Day) (l : List ℕ) → (closing_step x (length l)).outcome ≡ Ok tt → take (trailer_size Bytes24) (closing_output x l) ≡ trailer_bytes Bytes24 x.counts =
    λ x l a. ap (λ (o : Result Unit RefusedAt). take (trailer_size Bytes24) (output_by o (trailer_bytes Bytes24 x.counts) l)) a ∙ take_at (trailer_bytes Bytes24 x.counts) _ (trailer_size Bytes24) (trailer_length Bytes24 x.counts) in
    record {
      same_outcome = same;
      same_trailer = λ a. trailer d last a ∙ ap (trailer_bytes Bytes24) s.same_counts ∙ sym (trailer e last' (sym same ∙ a));
    }
