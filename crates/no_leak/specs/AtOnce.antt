-- No leak in a day that is labelled at once. `labelling` is what `labelling::label_day` answers, and `output_after` the output afterwards, by
-- its contract. Assumes nothing.
use Rattle.std.specs.Prelude.{◌≡◌, ℕ, List, length}
use Rattle.elements.specs.declared.Elements.{Elements}
use Rattle.labelling.specs.Day.{labelling, output_after}
use Rattle.no_leak.specs.Alike.{AlikeDays}
use Rattle.no_leak.specs.Files.{NoLeak}

-- two alike days, the same elements, and outputs with the same room, whatever these hold (theorem `at_once`)
abbrev pub AtOnce : Type 0
AtOnce =
    (el : Elements) (one two output output' : List ℕ) → AlikeDays el one two → length output ≡ length output'
    → NoLeak 0 (labelling el one (length output)) (labelling el two (length output')) (output_after el one output) (output_after el two output')
