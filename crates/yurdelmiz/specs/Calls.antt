-- What each call of the C interface gives: include/yurdelmiz.h, in its order. Assumes nothing.
use Rattle.std.specs.Prelude.{ℕ, ◌*◌, ◌&&◌, List, [], ◌∷◌, eqb, ℤ, length, Err, None, Ok, Option, Result, Some}
use Rattle.refusal.specs.Numbers.{number_of}
use Rattle.kepler.specs.Solution.{solution}
use Rattle.sun.specs.Sun.{sun_of, sun_answer}
use Rattle.sun.specs.declared.Direction.{Direction}
use Rattle.position.specs.Turn.{earth_fixed_of}
use Rattle.position.specs.declared.Position.{Position}
use Rattle.orbit.specs.Placement.{placement}
use Rattle.elements.specs.declared.Elements.{Elements}
use Rattle.elements_file.specs.Reading.{parsed}
use Rattle.two_line.specs.Reading.{two_line_reading}
use Rattle.element_sets.specs.Table.{row_size}
use Rattle.element_sets.specs.Finding.{finding}
use Rattle.element_sets.specs.Putting.{putting, with_set}
use Rattle.shade.specs.Codes.{shade_code}
use Rattle.eclipse.specs.Shade.{shade_answer}
use Rattle.endian.specs.LittleEndian.{bytes4, bytes8}
use Rattle.label_file.specs.Reading.{buffer_reading}
use Rattle.label_file.specs.Tail.{tail_reading}
use Rattle.labelling.specs.Adding.{adding, buffer_after}
use Rattle.labelling.specs.Day.{labelling, output_after}
use Rattle.scale.specs.Step.{scaling}
use Rattle.salvage.specs.Salvage.{salvaging, salvaged_output}
use Rattle.packets.specs.Day.{opening_step}
use Rattle.packets.specs.Packet.{packet_step, packet_output}
use Rattle.packets.specs.Closing.{closing_step, closing_output}
use Rattle.packets.specs.declared.Day.{Day}
use Rattle.elements_buffer.specs.Buffer.{elements_bytes, elements_of}
use Rattle.buffers.specs.Answers.{anomaly_bytes, sun_bytes, state_bytes, read_bytes, add_bytes, salvage_bytes, found_bytes, not_held}
use Rattle.statuses.specs.Faults.{fault_number, fault_place}
use Rattle.statuses.specs.Status.{status_at}
use Rattle.day_buffer.specs.State.{day_of, day_bytes}
use Rattle.figures_buffer.specs.FigureBytes.{figures_in, figures_bytes}
use Rattle.statuses.specs.Call.{Call, Outcome, refused, given, call_of, BufferCall, BufferOutcome, rejected, written, buffer_call_of}
use Rattle.element_sets.specs.declared.lookup.Row.TheVariants.{Past, Forecast}
use Rattle.element_sets.specs.declared.lookup.Row.{Row}
use Rattle.elements_file.specs.declared.Malformed.{Malformed}
use Rattle.kepler.specs.declared.Anomaly.{Anomaly}
use Rattle.labelling.specs.declared.Labelled.{Labelled}
use Rattle.orbit.specs.declared.State.{State}
use Rattle.refusal.specs.declared.Refusal.{Refusal}
use Rattle.refusal.specs.declared.RefusedAt.{RefusedAt}
use Rattle.salvage.specs.declared.Kept.{Kept}
use Rattle.scale.specs.declared.Figures.{Figures}
use Rattle.shade.specs.declared.Shade.{Shade}
use Rattle.sun.specs.declared.Sun.{Sun}
use Rattle.trailer.specs.declared.Contents.{Contents}

-- ---- yurdelmiz_kepler
abbrev pub anomaly_outcome : Result Anomaly Refusal → Outcome
anomaly_outcome (Err refusal) = refused (number_of refusal)
anomaly_outcome (Ok r) = given (anomaly_bytes r)

unfoldable pub kepler_call : ℕ → ℕ → List ℕ → Call
kepler_call e M buffer = call_of (eqb (length buffer) 8) (anomaly_outcome (solution e M)) buffer

-- ---- yurdelmiz_sun
abbrev pub sun_outcome : Result Sun Refusal → Outcome
sun_outcome (Err refusal) = refused (number_of refusal)
sun_outcome (Ok s) = given (sun_bytes s)

unfoldable pub sun_call : ℤ → List ℕ → Call
sun_call t buffer = call_of (eqb (length buffer) 28) (sun_outcome (sun_answer t)) buffer

-- ---- yurdelmiz_position
-- Earth-fixed at the GHAA of the time
unfoldable pub earth_fixed_at : Position → ℤ → Position
earth_fixed_at p t = earth_fixed_of p (sun_of t).greenwich_hour_angle

abbrev pub state_outcome : Result State Refusal → ℤ → Outcome
state_outcome (Err refusal) t = refused (number_of refusal)
state_outcome (Ok s) t = given (state_bytes s (earth_fixed_at s.position t))

unfoldable pub position_call : List ℕ → ℤ → List ℕ → Call
position_call elements t buffer =
    call_of (eqb (length elements) 52 && eqb (length buffer) 68) (state_outcome (placement (elements_of elements) t) t) buffer

-- ---- yurdelmiz_shade
abbrev pub shade_outcome : Result Shade Refusal → Outcome
shade_outcome (Err refusal) = refused (number_of refusal)
shade_outcome (Ok s) = given (shade_code s ∷ [])

unfoldable pub shade_call : Position → Direction → List ℕ → Call
shade_call p sun buffer = call_of (eqb (length buffer) 1) (shade_outcome (shade_answer p sun)) buffer

-- ---- yurdelmiz_elements
abbrev pub elements_outcome : Result Elements Malformed → Outcome
elements_outcome (Err malformed) = refused (status_at (fault_number malformed.fault) (fault_place malformed.line malformed.element))
elements_outcome (Ok el) = given (elements_bytes el)

unfoldable pub elements_call : List ℕ → List ℕ → Call
elements_call text buffer = call_of (eqb (length buffer) 52) (elements_outcome (parsed text)) buffer

-- ---- yurdelmiz_two_line
abbrev pub two_line_outcome : Result Elements RefusedAt → Outcome
two_line_outcome (Err error) = refused (status_at (number_of error.refusal) error.place)
two_line_outcome (Ok el) = given (elements_bytes el)

unfoldable pub two_line_call : List ℕ → List ℕ → ℕ → ℤ → ℤ → List ℕ → Call
two_line_call first second axis node_rate perigee_rate buffer = call_of (eqb (length buffer) 52) (two_line_outcome (two_line_reading first second axis node_rate perigee_rate)) buffer

-- ---- yurdelmiz_find_set
-- where the row begins, and 0 for the past, 1 for the forecast
abbrev pub find_outcome : Result Row Refusal → Outcome
find_outcome (Err refusal) = refused (number_of refusal)
find_outcome (Ok (Past k)) = given (found_bytes (row_size * k) 0)
find_outcome (Ok (Forecast k)) = given (found_bytes (row_size * k) 1)

unfoldable pub find_set_call : List ℕ → ℕ → List ℕ → ℕ → ℤ → List ℕ → Call
find_set_call past past_size forecast forecast_size time buffer =
    call_of (eqb (length buffer) 12) (find_outcome (finding past past_size forecast forecast_size time)) buffer

-- ---- yurdelmiz_put_set
abbrev pub put_outcome : Result ℕ Refusal → List ℕ → BufferOutcome
put_outcome (Err refusal) after = rejected (number_of refusal)
put_outcome (Ok end) after = written after (bytes8 end)

unfoldable pub put_set_call : List ℕ → List ℕ → ℕ → List ℕ → BufferCall
put_set_call elements buffer size answer =
    let el = elements_of elements in
    buffer_call_of (eqb (length elements) 52 && eqb (length answer) 8) (put_outcome (putting el buffer size) (with_set el buffer size)) buffer answer

-- ---- yurdelmiz_label
abbrev pub label_outcome : Result Labelled RefusedAt → List ℕ → Outcome
label_outcome (Err error) after = refused (status_at (number_of error.refusal) error.place)
label_outcome (Ok labelled) after = given after

-- the output after labelling with some elements
unfoldable pub day_outcome : Elements → List ℕ → List ℕ → Outcome
day_outcome el telemetry output = label_outcome (labelling el telemetry (length output)) (output_after el telemetry output)

unfoldable pub label_call : List ℕ → List ℕ → List ℕ → Call
label_call elements telemetry output =
    call_of (eqb (length elements) 52) (day_outcome (elements_of elements) telemetry output) output

-- ---- yurdelmiz_add
abbrev pub add_outcome : Result Labelled RefusedAt → List ℕ → BufferOutcome
add_outcome (Err error) after = rejected (status_at (number_of error.refusal) error.place)
add_outcome (Ok labelled) after = written after (add_bytes labelled.counts labelled.end)

unfoldable pub add_call : List ℕ → List ℕ → ℕ → List ℕ → List ℕ → BufferCall
add_call elements buffer size telemetry answer =
    let el = elements_of elements in
    buffer_call_of (eqb (length elements) 52 && eqb (length answer) 28)
    (add_outcome (adding el buffer size telemetry) (buffer_after el buffer size telemetry)) buffer answer

-- ---- yurdelmiz_read
abbrev pub read_outcome : Result Contents RefusedAt → Outcome
read_outcome (Err error) = refused (status_at (number_of error.refusal) error.place)
read_outcome (Ok contents) = given (read_bytes contents.form contents.counts)

unfoldable pub read_call : List ℕ → ℕ → List ℕ → Call
read_call file size buffer = call_of (eqb (length buffer) 24) (read_outcome (buffer_reading file size)) buffer

-- ---- yurdelmiz_dark_test
abbrev pub dark_test_outcome : Result (Option ℕ) Refusal → Outcome
dark_test_outcome (Err refusal) = refused (number_of refusal)
dark_test_outcome (Ok None) = given (bytes4 not_held)
dark_test_outcome (Ok (Some labels)) = given (bytes4 labels)

unfoldable pub dark_test_call : List ℕ → ℕ → List ℕ → Call
dark_test_call bytes size buffer = call_of (eqb (length buffer) 4) (dark_test_outcome (tail_reading bytes size)) buffer

-- ---- yurdelmiz_scale
abbrev pub scale_outcome : Result Figures RefusedAt → Outcome
scale_outcome (Err error) = refused (status_at (number_of error.refusal) error.place)
scale_outcome (Ok f) = given (figures_bytes f)

unfoldable pub scale_call : List ℕ → List ℕ → ℕ → Call
scale_call figures file size = call_of (eqb (length figures) 48) (scale_outcome (scaling (figures_in figures) file size)) figures

-- ---- yurdelmiz_salvage
abbrev pub salvage_outcome : Result Kept Refusal → List ℕ → BufferOutcome
salvage_outcome (Err refusal) after = rejected (number_of refusal)
salvage_outcome (Ok kept) after = written after (salvage_bytes kept.labels kept.dropped)

unfoldable pub salvage_call : List ℕ → List ℕ → List ℕ → BufferCall
salvage_call body output answer =
    buffer_call_of (eqb (length answer) 12) (salvage_outcome (salvaging body (length output)) (salvaged_output body output)) output answer

-- ---- yurdelmiz_open
abbrev pub open_outcome : Result Unit RefusedAt → Day → Outcome
open_outcome (Err error) d = refused (number_of error.refusal)
open_outcome (Ok tt) d = given (day_bytes d)

unfoldable pub open_call : List ℕ → List ℕ → Call
open_call elements day =
    let opened = opening_step (elements_of elements) in
    call_of (eqb (length elements) 52 && eqb (length day) 89) (open_outcome opened.outcome opened.day) day

-- ---- yurdelmiz_packet
abbrev pub step_outcome : Result Unit RefusedAt → Day → List ℕ → BufferOutcome
step_outcome (Err error) d after = rejected (status_at (number_of error.refusal) error.place)
step_outcome (Ok tt) d after = written after (day_bytes d)

unfoldable pub packet_call : List ℕ → List ℕ → List ℕ → BufferCall
packet_call day packet output =
    let d = day_of day in
    let taken = packet_step d packet (length output) in
    buffer_call_of (eqb (length day) 89) (step_outcome taken.outcome taken.day (packet_output d packet output)) output day

-- ---- yurdelmiz_close
unfoldable pub close_call : List ℕ → List ℕ → BufferCall
close_call day output =
    let d = day_of day in
    let closed = closing_step d (length output) in
    buffer_call_of (eqb (length day) 89) (step_outcome closed.outcome closed.day (closing_output d output)) output day
