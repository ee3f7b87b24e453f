-- A salvage as the outcome of a call. Assumes nothing.
use mathlib.Core.Path.{◌≡◌, sym, ap, ◌∙◌}
use Prim.Native.Nat.{ℕ}
use mathlib.Core.List.{List}
use lib.ListN.{length}
use Rattle.refusal.specs.declared.Refusal.{Refusal}
use Rattle.salvage.specs.Salvage.{salvaging, salvaged_output}
use Rattle.salvage.specs.Contract.{Salvaged}
use Rattle.salvage.specs.declared.Kept.{Kept}
use Rattle.yurdelmiz.specs.Calls.{salvage_outcome}
use Rattle.std.specs.Prelude.{Result}

module _ {body output after : List ℕ} {r : Result Kept Refusal} (salvaged : Salvaged body output after r) where
  pub salvage_outcome_lem : {x : Result Kept Refusal} → r ≡ x → salvage_outcome (salvaging body (length output)) (salvaged_output body output) ≡ salvage_outcome x (salvaged_output body output)
  salvage_outcome_lem e = ap (λ (x : Result Kept Refusal). salvage_outcome x (salvaged_output body output)) (sym salvaged.answer_is ∙ e)
