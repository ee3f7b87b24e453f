-- A step of a day as the outcome of a call. Assumes nothing.
use mathlib.Core.Path.{◌≡◌, sym, ◌∙◌}
use Prim.Native.Nat.{ℕ}
use mathlib.Core.List.{List}
use Rattle.refusal.specs.declared.RefusedAt.{RefusedAt}
use Rattle.packets.specs.Packet.{output_by}
use Rattle.packets.specs.Contract.{Stepped}
use Rattle.packets.specs.declared.Day.{Day}
use Rattle.packets.specs.declared.Step.{Step}
use Rattle.yurdelmiz.specs.Calls.{step_outcome}
use Rattle.std.specs.Prelude.{Result}

module _ {step : Step} {bytes output : List ℕ} {next : Day} {after : List ℕ} {outcome : Result Unit RefusedAt} (stepped : Stepped step bytes output next after outcome) where
  pub step_outcome_lem : {x : Result Unit RefusedAt} → outcome ≡ x → step_outcome step.outcome step.day (output_by step.outcome bytes output) ≡ step_outcome x next (output_by step.outcome bytes output)
  step_outcome_lem e = λ i. step_outcome ((sym stepped.outcome_is ∙ e) i) (sym stepped.day_is i) (output_by step.outcome bytes output)
