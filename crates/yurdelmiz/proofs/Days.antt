-- A labelled day as the outcome of a call. Assumes nothing.
use mathlib.Core.Path.{◌≡◌, sym, ap, ◌∙◌}
use Prim.Native.Nat.{ℕ}
use mathlib.Core.List.{List}
use Rattle.refusal.specs.declared.RefusedAt.{RefusedAt}
use Rattle.elements.specs.declared.Elements.{Elements}
use Rattle.labelling.specs.Contract.{LabelledDay}
use Rattle.labelling.specs.Day.{output_after}
use Rattle.labelling.specs.declared.Labelled.{Labelled}
use Rattle.yurdelmiz.specs.Calls.{label_outcome, day_outcome}
use Rattle.std.specs.Prelude.{Result}

module _ {el : Elements} {telemetry output after : List ℕ} {r : Result Labelled RefusedAt} (day : LabelledDay el telemetry output after r) where
  pub day_outcome_lem : {x : Result Labelled RefusedAt} → r ≡ x → day_outcome el telemetry output ≡ label_outcome x (output_after el telemetry output)
  unfolding day_outcome
  day_outcome_lem e = ap (λ (x : Result Labelled RefusedAt). label_outcome x (output_after el telemetry output)) (sym day.answer_is ∙ e)
