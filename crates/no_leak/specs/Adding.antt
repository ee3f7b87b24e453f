-- No leak in telemetry that is added to a file. `adding` is what `labelling::add` answers, and `buffer_after` the buffer afterwards, by its
-- contract. Assumes nothing.
use Rattle.std.specs.Prelude.{◌≡◌, ℕ, ◌+◌, List, ◌++◌, length, Ok}
use Rattle.elements.specs.declared.Elements.{Elements}
use Rattle.trailer.specs.declared.Counts.{Counts}
use Rattle.trailer.specs.declared.Form.{Form}
use Rattle.label_file.specs.File.{file_of}
use Rattle.labelling.specs.Records.{records, label_at, labelled_to}
use Rattle.labelling.specs.Day.{labelling}
use Rattle.labelling.specs.Adding.{adding, buffer_after}
use Rattle.no_leak.specs.Alike.{AlikeDays}
use Rattle.no_leak.specs.Files.{NoLeak}

-- the file that labelling some telemetry makes; it writes the trailer of 24 bytes, and files with that of 16 are added to as well
abbrev pub file_for : Elements → Form → List ℕ → List ℕ
file_for el form telemetry = file_of form (label_at el telemetry) (records telemetry)

-- Two days cut alike. The first parts, which are alike and are labelled, made the two files; these lie in buffers with as many bytes in
-- front and as many behind; and the second parts, which are alike, are added (theorem `added`).
abbrev pub Adding : Type 0
Adding =
    (el : Elements) (one two more more' front front' rest rest' : List ℕ) (form : Form) (room size : ℕ) (counts : Counts) →
    let file = file_for el form one in
    let file' = file_for el form two in
    let buffer = front ++ (file ++ rest) in
    let buffer' = front' ++ (file' ++ rest') in
    let used = length front + length file in
    let used' = length front' + length file' in
    AlikeDays el one two → labelling el one room ≡ Ok (labelled_to counts size) → AlikeDays el more more' → length front ≡ length front' → length rest ≡ length rest'
    → NoLeak (length front) (adding el buffer used more) (adding el buffer' used' more') (buffer_after el buffer used more) (buffer_after el buffer' used' more')
