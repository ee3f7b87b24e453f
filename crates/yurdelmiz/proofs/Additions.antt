-- An addition as the outcome of a call; a refused one leaves the buffer. Assumes nothing.
use mathlib.Core.Path.{◌≡◌, sym, ap, ◌∙◌}
use Prim.Native.Nat.{ℕ}
use mathlib.Core.List.{List}
use Rattle.elements.specs.declared.Elements.{Elements}
use Rattle.labelling.specs.Adding.{adding, buffer_after}
use Rattle.labelling.specs.Contract.{AddedTo}
use Rattle.labelling.specs.declared.Labelled.{Labelled}
use Rattle.labelling.proofs.AddedFile.{adding_refused}
use Rattle.refusal.specs.declared.RefusedAt.{RefusedAt}
use Rattle.yurdelmiz.specs.Calls.{add_outcome}
use Rattle.std.specs.Prelude.{Err, Result}

module _ {el : Elements} {buffer : List ℕ} {size : ℕ} {telemetry after : List ℕ} {r : Result Labelled RefusedAt} (added : AddedTo el buffer size telemetry after r) where
  pub add_outcome_lem : {x : Result Labelled RefusedAt} → r ≡ x → add_outcome (adding el buffer size telemetry) (buffer_after el buffer size telemetry) ≡ add_outcome x (buffer_after el buffer size telemetry)
  add_outcome_lem e = ap (λ (x : Result Labelled RefusedAt). add_outcome x (buffer_after el buffer size telemetry)) (sym added.answer_is ∙ e)

pub kept : (el : Elements) (buffer : List ℕ) (size : ℕ) (telemetry : List ℕ) (error : RefusedAt) → adding el buffer size telemetry ≡ Err error → buffer_after el buffer size telemetry ≡ buffer
kept el buffer size telemetry error e = sym (adding_refused el buffer size telemetry e).buffer_is
