-- What a call that ended with status 0 gave, for its caller to cite; and what the result of a malformed elements file says. Assumes nothing.
use mathlib.Core.Path.{◌≡◌, refl, sym, ap, subst, ◌∙◌}
use mathlib.Core.Bool.{Bool, true, false}
use mathlib.Core.List.{List, [], append-nil}
use Prim.Native.Nat.{ℕ, ◌+◌, ◌*◌, ◌/◌, ◌%◌, ◌^◌, ◌≤◌, ◌<◌}
use native.Mathlib.Omega.{arith}
use borrow.Author.Tests.{eq-eqb, leb-true, leb-false}
use lib.Dec.{lit≤, leb}
use lib.IntN.{ℤ}
use lib.ListN.{length}
use Rattle.endian.specs.LittleEndian.{le4, le8, bytes4, bytes8}
use Rattle.endian.proofs.RoundTrip.{back4, back8}
use Rattle.refusal.proofs.Numbers.{never_0}
use Rattle.kepler.specs.Contract.{AnomalyAt}
use Rattle.kepler.specs.Solution.{solution}
use Rattle.kepler.specs.declared.Anomaly.{Anomaly}
use Rattle.kepler.proofs.Answer as solver
use Rattle.orbit.specs.Contract.{StateAt}
use Rattle.orbit.specs.Placement.{placement}
use Rattle.orbit.specs.declared.State.{State}
use Rattle.elements.specs.declared.Elements.{Elements}
use Rattle.orbit.proofs.Placements.{placed_state}
use Rattle.integer.proofs.Bounds.{sfits_within}
use Rattle.elements.specs.Elements.{checked}
use Rattle.elements.proofs.Accepted.{accepted as elements_passed}
use Rattle.two_line.specs.Reading.{two_line_reading}
use Rattle.two_line.proofs.TakenElements.{AnglesHeld, taken_passed, angles_held}
use Rattle.elements.specs.Contract.{Held}
use Rattle.elements_file.specs.Contract.{InBounds}
use Rattle.elements_file.specs.Reading.{parsed, malformed_at}
use Rattle.elements_file.specs.declared.Fault.{Fault}
use Rattle.elements_file.specs.declared.Fault.TheVariants.{Name, Extra, ControlByte, DecimalPoint, NotWhole, TooLarge, Unended, Missing, TooLong}
use Rattle.elements_file.proofs.Consistency.{parsed_in_bounds}
use Rattle.label.specs.Layout.{label_size}
use Rattle.trailer.specs.Counts.{counts_of}
use Rattle.label_file.specs.Reading.{held_at}
use Rattle.trailer.specs.Trailer.{distance_back}
use Rattle.trailer.specs.declared.Counts.{Counts}
use Rattle.trailer.specs.declared.Form.TheVariants.{Bytes24}
use Rattle.label_file.specs.Tail.{tail_reading}
use Rattle.label_file.proofs.Tails.{held_few}
use Rattle.labelling.specs.Adding.{adding, buffer_after}
use Rattle.labelling.specs.Day.{labelling, output_after}
use Rattle.labelling.proofs.AddedFile.{added_buffer_accepted}
use Rattle.labelling.proofs.WrittenFile.{written_buffer_accepted}
use Rattle.salvage.specs.Salvage.{salvaging, salvaged_output, kept_dropping}
use Rattle.salvage.proofs.Written.{kept_says}
use Rattle.elements_buffer.specs.Buffer.{elements_bytes, elements_of}
use Rattle.buffers.specs.Answers.{anomaly_bytes, state_bytes, read_bytes, add_bytes, salvage_bytes, not_held}
use Rattle.statuses.specs.Faults.{fault_number, fault_place}
use Rattle.statuses.specs.Status.{status_at}
use Rattle.elements_buffer.proofs.ElementsBack.{elements_back}
use Rattle.statuses.specs.Call.{Call, Outcome, refused, given, call_of, BufferCall, BufferOutcome, rejected, written, buffer_call_of}
use Rattle.yurdelmiz.specs.Calls.{anomaly_outcome, kepler_call, earth_fixed_at, state_outcome, position_call, elements_outcome, elements_call, two_line_outcome, two_line_call, day_outcome, label_call, label_outcome, add_outcome, add_call, read_outcome, read_call, dark_test_outcome, dark_test_call, salvage_outcome, salvage_call}
use Rattle.statuses.proofs.Endings.{ends_refused, ends_given}
use Rattle.elements_file.specs.declared.Malformed.{Malformed}
use Rattle.labelling.specs.Records.{labelled_to}
use Rattle.labelling.specs.declared.Labelled.{Labelled}
use Rattle.refusal.specs.declared.Refusal.{Refusal}
use Rattle.refusal.specs.declared.RefusedAt.{RefusedAt}
use Rattle.salvage.specs.declared.Kept.{Kept}
use Rattle.std.specs.Prelude.{Err, None, Ok, Option, Result, Some}

-- ---- status 0

fault_numbered : (f : Fault) → (101 ≤ fault_number f) × (fault_number f ≤ 109)
fault_numbered Name = (lit≤ tt, lit≤ tt)
fault_numbered Extra = (lit≤ tt, lit≤ tt)
fault_numbered ControlByte = (lit≤ tt, lit≤ tt)
fault_numbered DecimalPoint = (lit≤ tt, lit≤ tt)
fault_numbered NotWhole = (lit≤ tt, lit≤ tt)
fault_numbered TooLarge = (lit≤ tt, lit≤ tt)
fault_numbered Unended = (lit≤ tt, lit≤ tt)
fault_numbered Missing = (lit≤ tt, lit≤ tt)
fault_numbered TooLong = (lit≤ tt, lit≤ tt)

-- what is asked for was given, or its refusal would have the number 0
abbrev pub Ending : Outcome → List ℕ → Type 0
Ending (refused status) answer = status ≡ 0
Ending (given bytes) answer = answer ≡ bytes

pub accepted : (lengths : Bool) (outcome : Outcome) (buffer : List ℕ) → (call_of lengths outcome buffer).status ≡ 0 → Ending outcome (call_of lengths outcome buffer).answer
unfolding call_of
accepted true (refused status) buffer e = e
accepted true (given bytes) buffer e = refl
accepted false outcome buffer e = absurd (omega arith)

-- the same of a call that writes a buffer beside its answer
abbrev pub BufferEnding : BufferOutcome → BufferCall → Type 0
BufferEnding (rejected status) call = status ≡ 0
BufferEnding (written after bytes) call = (call.buffer ≡ after) × (call.answer ≡ bytes)

pub buffer_accepted : (lengths : Bool) (outcome : BufferOutcome) (buffer answer : List ℕ) → (buffer_call_of lengths outcome buffer answer).status ≡ 0
    → BufferEnding outcome (buffer_call_of lengths outcome buffer answer)
unfolding buffer_call_of
buffer_accepted true (rejected status) buffer answer e = e
buffer_accepted true (written after bytes) buffer answer e = (refl, refl)
buffer_accepted false outcome buffer answer e = absurd (omega arith)

-- ---- yurdelmiz_kepler

-- the eccentricity is allowed, and the bytes are those of the definition's E and halvings, with the bracket and demand 3
pub record KeplerAnswer (e M : ℕ) (answer : List ℕ) : Type 0 where
  pub eccentricity_le : e ≤ 9_000_000
  pub anomaly : Anomaly
  pub anomaly_at : AnomalyAt e M anomaly
  pub answer_is : answer ≡ anomaly_bytes anomaly

kepler_by : (e M : ℕ) (answer : List ℕ) (t : Bool) → leb e 9_000_000 ≡ t → M < 2 ^ 32 → Ending (anomaly_outcome (solution e M)) answer → KeplerAnswer e M answer
kepler_by e M answer true h angle g =
    let le = leb-true e 9_000_000 h in
    record { eccentricity_le = le; anomaly = solver.anomaly_of e M; anomaly_at = solver.anomaly_at e M le angle; answer_is = rw (solver.solved e M le) at g }
kepler_by e M answer false h angle g =
    let z = rw (solver.refused e M (leb-false e 9_000_000 h)) at g in absurd (omega arith)

pub kepler_accepted : (e M : ℕ) (buffer : List ℕ) → M < 2 ^ 32 → (kepler_call e M buffer).status ≡ 0 → KeplerAnswer e M (kepler_call e M buffer).answer
unfolding kepler_call
kepler_accepted e M buffer angle s = kepler_by e M _ (leb e 9_000_000) refl angle (accepted _ _ buffer s)

-- ---- yurdelmiz_position

-- the bytes are those of the definition's state, with the bracket, demand 3 and the radius between perigee and apogee, and of its Earth-fixed position
pub record PositionAnswer (el : Elements) (t : ℤ) (answer : List ℕ) : Type 0 where
  pub state : State
  pub state_at : StateAt el t state
  pub answer_is : answer ≡ state_bytes state (earth_fixed_at state.position t)

position_by : (el : Elements) (t : ℤ) (answer : List ℕ) (r : Result State Refusal) → placement el t ≡ r → Ending (state_outcome r t) answer → PositionAnswer el t answer
position_by el t answer (Err refusal) e g = absurd (omega (arith, never_0 refusal))
position_by el t answer (Ok s) e g = record { state = s; state_at = placed_state el t s e; answer_is = g }

pub position_accepted : (elements : List ℕ) (t : ℤ) (buffer : List ℕ) → (position_call elements t buffer).status ≡ 0
    → PositionAnswer (elements_of elements) t (position_call elements t buffer).answer
unfolding position_call
position_accepted elements t buffer s =
    position_by (elements_of elements) t _ (placement (elements_of elements) t) refl (accepted _ _ buffer s)

-- ---- yurdelmiz_elements

-- the text gives the elements that the calls read from the answer
pub record ElementsAnswer (text answer : List ℕ) : Type 0 where
  pub elements : Elements
  pub parsed_is : parsed text ≡ Ok elements
  pub answer_is : answer ≡ elements_bytes elements
  pub elements_are : elements_of answer ≡ elements

elements_by : (text answer : List ℕ) (r : Result Elements Malformed) → parsed text ≡ r → Ending (elements_outcome r) answer → ElementsAnswer text answer
elements_by text answer (Err fault) e g = absurd (omega (arith, fault_numbered fault.fault))
elements_by text answer (Ok el) e g =
    record { elements = el; parsed_is = e; answer_is = g; elements_are = rw g (ap elements_of (sym (append-nil (elements_bytes el))) ∙ elements_back el [] (subst InBounds e (parsed_in_bounds text))) }

pub elements_accepted : (text buffer : List ℕ) → (elements_call text buffer).status ≡ 0 → ElementsAnswer text (elements_call text buffer).answer
unfolding elements_call
elements_accepted text buffer s = elements_by text _ (parsed text) refl (accepted _ _ buffer s)

-- ---- yurdelmiz_two_line

-- the lines give elements that pass the checks, and that the calls read from the answer
pub record TwoLineAnswer (first second : List ℕ) (axis : ℕ) (node_rate perigee_rate : ℤ) (answer : List ℕ) : Type 0 where
  pub elements : Elements
  pub reading_is : two_line_reading first second axis node_rate perigee_rate ≡ Ok elements
  pub passes : checked elements ≡ Ok tt
  pub answer_is : answer ≡ elements_bytes elements
  pub elements_are : elements_of answer ≡ elements

-- within their types
taken_held : (first second : List ℕ) (axis : ℕ) (node_rate perigee_rate : ℤ) (el : Elements) → two_line_reading first second axis node_rate perigee_rate ≡ Ok el → Held el
taken_held first second axis node_rate perigee_rate el e =
    let p = taken_passed first second axis node_rate perigee_rate el e in
    let a = elements_passed el p.passes in
    let h : AnglesHeld el = rw p.is (angles_held first second axis node_rate perigee_rate) in
    record {
      eccentricity = omega (arith, a.eccentricity_le);
      semi_major_axis = omega (arith, a.axis_le);
      inclination = h.inclination;
      node = h.node;
      argument_of_perigee = h.argument_of_perigee;
      mean_anomaly = h.mean_anomaly;
      mean_motion = omega (arith, a.motion_le);
      node_rate = sfits_within a.node_rate tt;
      perigee_rate = sfits_within a.perigee_rate tt;
      epoch_revolution = omega (arith, a.revolution_le);
      epoch = sfits_within h.epoch tt;
      derivative = sfits_within a.derivative tt;
    }

two_line_by : (first second : List ℕ) (axis : ℕ) (node_rate perigee_rate : ℤ) (answer : List ℕ) (r : Result Elements RefusedAt) → two_line_reading first second axis node_rate perigee_rate ≡ r → Ending (two_line_outcome r) answer → TwoLineAnswer first second axis node_rate perigee_rate answer
two_line_by first second axis node_rate perigee_rate answer (Err error) e g = absurd (omega (arith, never_0 error.refusal))
two_line_by first second axis node_rate perigee_rate answer (Ok el) e g =
    record {
      elements = el;
      reading_is = e;
      passes = (taken_passed first second axis node_rate perigee_rate el e).passes;
      answer_is = g;
      elements_are = rw g (ap elements_of (sym (append-nil (elements_bytes el))) ∙ elements_back el [] (taken_held first second axis node_rate perigee_rate el e));
    }

pub two_line_accepted : (first second : List ℕ) (axis : ℕ) (node_rate perigee_rate : ℤ) (buffer : List ℕ) → (two_line_call first second axis node_rate perigee_rate buffer).status ≡ 0 → TwoLineAnswer first second axis node_rate perigee_rate (two_line_call first second axis node_rate perigee_rate buffer).answer
unfolding two_line_call
two_line_accepted first second axis node_rate perigee_rate buffer s =
    two_line_by first second axis node_rate perigee_rate _ (two_line_reading first second axis node_rate perigee_rate) refl (accepted _ _ buffer s)

-- the parts of the result where the text is malformed, as YURDELMIZ_STATUS, YURDELMIZ_LINE and YURDELMIZ_ELEMENT take it apart
pub record FaultResult (line element number result : ℕ) : Type 0 where
  pub status_is : result % 2 ^ 32 ≡ number
  pub line_is : result / 2 ^ 32 % 2 ^ 24 ≡ line
  pub element_is : result / 2 ^ 32 / 2 ^ 24 ≡ element

pub elements_malformed : (text buffer : List ℕ) (line element : ℕ) (fault : Fault) → length buffer ≡ 52 → parsed text ≡ Err (malformed_at line element fault)
    → FaultResult line element (fault_number fault) (elements_call text buffer).status
unfolding elements_call
elements_malformed text buffer line element fault n e =
    let c = subst InBounds e (parsed_in_bounds text) in
    let k = fault_numbered fault in
    let s = ap (λ (x : Call). x.status) (sym (ends_refused _ _ buffer {status = status_at (fault_number fault) (fault_place line element)} refl (eq-eqb _ 52 n) (ap elements_outcome e))) in
    record { status_is = omega arith; line_is = omega arith; element_is = omega arith }

-- ---- yurdelmiz_label, and yurdelmiz_read of what it wrote

-- a read call takes the labels and the trailer with the counts of the labels
pub record LabelAnswer (elements telemetry output : List ℕ) : Type 0 where
  pub counts : Counts
  pub end : ℕ
  pub labelled : labelling (elements_of elements) telemetry (length output) ≡ Ok (labelled_to counts end)
  pub reads_back : (buffer : List ℕ) → length buffer ≡ 24
      → read_call (label_call elements telemetry output).answer end buffer ≡ record { status = 0; answer = read_bytes Bytes24 counts }

label_by : (elements telemetry output answer : List ℕ) (r : Result Labelled RefusedAt) → labelling (elements_of elements) telemetry (length output) ≡ r
    → (label_call elements telemetry output).answer ≡ answer
    → Ending (label_outcome r (output_after (elements_of elements) telemetry output)) answer → LabelAnswer elements telemetry output
unfolding read_call
label_by elements telemetry output answer (Err error) e a g = absurd (omega (arith, never_0 error.refusal))
label_by elements telemetry output answer (Ok labelled') e a g =
    record {
      counts = labelled'.counts;
      end = labelled'.end;
      labelled = e;
      reads_back = λ buffer n. rw (a ∙ g) (sym (ends_given _ _ buffer refl (eq-eqb _ 24 n) (ap read_outcome (written_buffer_accepted (elements_of elements) telemetry output labelled'.counts labelled'.end e))));
    }

pub label_accepted : (elements telemetry output : List ℕ) → (label_call elements telemetry output).status ≡ 0 → LabelAnswer elements telemetry output
unfolding label_call day_outcome
label_accepted elements telemetry output s = label_by elements telemetry output _ (labelling (elements_of elements) telemetry (length output)) refl refl (accepted _ _ output s)

-- ---- yurdelmiz_add, and yurdelmiz_read of what it left

-- the buffer and the answer are those of the definition, and a read call takes the file with the counts of all its labels
pub record AddAnswer (elements buffer : List ℕ) (size : ℕ) (telemetry answer : List ℕ) : Type 0 where
  pub counts : Counts
  pub end : ℕ
  pub added : adding (elements_of elements) buffer size telemetry ≡ Ok (labelled_to counts end)
  pub buffer_is : (add_call elements buffer size telemetry answer).buffer ≡ buffer_after (elements_of elements) buffer size telemetry
  pub answer_is : (add_call elements buffer size telemetry answer).answer ≡ add_bytes counts end
  pub reads_back : (out : List ℕ) → length out ≡ 24
      → read_call (add_call elements buffer size telemetry answer).buffer end out ≡ record { status = 0; answer = read_bytes Bytes24 counts }

add_by : (elements buffer : List ℕ) (size : ℕ) (telemetry answer : List ℕ) (r : Result Labelled RefusedAt) → adding (elements_of elements) buffer size telemetry ≡ r
    → BufferEnding (add_outcome r (buffer_after (elements_of elements) buffer size telemetry)) (add_call elements buffer size telemetry answer)
    → AddAnswer elements buffer size telemetry answer
unfolding read_call
add_by elements buffer size telemetry answer (Err error) e g = absurd (omega (arith, never_0 error.refusal))
add_by elements buffer size telemetry answer (Ok labelled') e g =
    record {
      counts = labelled'.counts;
      end = labelled'.end;
      added = e;
      buffer_is = g.0;
      answer_is = g.1;
      reads_back = λ out k. rw g.0 (sym (ends_given _ _ out refl (eq-eqb _ 24 k) (ap read_outcome (added_buffer_accepted (elements_of elements) buffer size telemetry labelled'.counts labelled'.end e))));
    }

pub add_accepted : (elements buffer : List ℕ) (size : ℕ) (telemetry answer : List ℕ) → (add_call elements buffer size telemetry answer).status ≡ 0 → AddAnswer elements buffer size telemetry answer
unfolding add_call
add_accepted elements buffer size telemetry answer s =
    add_by elements buffer size telemetry answer (adding (elements_of elements) buffer size telemetry) refl (buffer_accepted _ _ buffer answer s)

-- ---- yurdelmiz_dark_test

-- the number in the answer is the one that the trailer states, at most 1,024; or the one that stands for a figure not held
abbrev pub Told : Result (Option ℕ) Refusal → ℕ → Type 0
Told (Err refusal) figure = ⊥
Told (Ok None) figure = figure ≡ not_held
Told (Ok (Some labels)) figure = (figure ≡ labels) × (labels ≤ 1_024)

pub dark_test_accepted : (bytes : List ℕ) (size : ℕ) (buffer : List ℕ) → (dark_test_call bytes size buffer).status ≡ 0
    → Told (tail_reading bytes size) (le4 (dark_test_call bytes size buffer).answer 0)
unfolding dark_test_call not_held
dark_test_accepted bytes size buffer s = by _ (tail_reading bytes size) refl (accepted _ _ buffer s)
  where
    by : (answer : List ℕ) (r : Result (Option ℕ) Refusal) → tail_reading bytes size ≡ r → Ending (dark_test_outcome r) answer → Told r (le4 answer 0)
    by answer (Err refusal) e g = absurd (omega (arith, never_0 refusal))
    by answer (Ok None) e g = ap (λ (l : List ℕ). le4 l 0) g ∙ back4 not_held (omega arith)
    by answer (Ok (Some labels)) e g =
        let few = held_few bytes size labels e in
        (ap (λ (l : List ℕ). le4 l 0) g ∙ back4 labels (omega (arith, few)), few)

-- ---- yurdelmiz_salvage, and yurdelmiz_read of what it wrote

-- the numbers in the answer are the labels kept and the bytes dropped, with which every byte given is accounted for; the output is the
-- definition's, and a read call takes the file in it with the counts of the labels kept
pub record SalvageAnswer (body output answer : List ℕ) : Type 0 where
  pub labels : ℕ
  pub dropped : ℕ
  pub salvaged : salvaging body (length output) ≡ Ok (kept_dropping labels dropped)
  pub each_byte : label_size * labels + dropped ≡ length body
  pub output_is : (salvage_call body output answer).buffer ≡ salvaged_output body output
  pub labels_are : le4 (salvage_call body output answer).answer 0 ≡ labels
  pub dropped_are : length body < 2 ^ 64 → le8 (salvage_call body output answer).answer 4 ≡ dropped
  pub reads_back : (out : List ℕ) → length out ≡ 24
      → read_call (salvage_call body output answer).buffer (distance_back Bytes24 labels) out ≡ record { status = 0; answer = read_bytes Bytes24 (counts_of (held_at body) labels) }

-- the two numbers of the answer
salvage_back : (labels dropped : ℕ) → labels ≤ 1_024 → (le4 (salvage_bytes labels dropped) 0 ≡ labels) × (dropped < 2 ^ 64 → le8 (salvage_bytes labels dropped) 4 ≡ dropped)
unfolding salvage_bytes bytes4 bytes8
salvage_back labels dropped few = (back4 labels (omega arith), λ h. back8 dropped h)

salvage_by : (body output answer : List ℕ) (r : Result Kept Refusal) → salvaging body (length output) ≡ r
    → BufferEnding (salvage_outcome r (salvaged_output body output)) (salvage_call body output answer) → SalvageAnswer body output answer
unfolding read_call
salvage_by body output answer (Err refusal) e g = absurd (omega (arith, never_0 refusal))
salvage_by body output answer (Ok found) e g =
    let says = kept_says body output found.labels found.dropped e in
    let numbers = salvage_back found.labels found.dropped says.0 in
    record {
      labels = found.labels;
      dropped = found.dropped;
      salvaged = e;
      each_byte = says.1;
      output_is = g.0;
      labels_are = ap (λ (l : List ℕ). le4 l 0) g.1 ∙ numbers.0;
      dropped_are = λ h. ap (λ (l : List ℕ). le8 l 4) g.1 ∙ numbers.1 (omega (arith, says.1));
      reads_back = λ out k. rw g.0 (sym (ends_given _ _ out refl (eq-eqb _ 24 k) (ap read_outcome says.2)));
    }

pub salvage_accepted : (body output answer : List ℕ) → (salvage_call body output answer).status ≡ 0 → SalvageAnswer body output answer
unfolding salvage_call
salvage_accepted body output answer s = salvage_by body output answer (salvaging body (length output)) refl (buffer_accepted _ _ output answer s)
