-- The start of some bytes decides what salvage keeps of them: whoever has more need hand over no more. Assumes nothing.
use Rattle.std.specs.Prelude.{◌≡◌, ℕ, ◌+◌, ◌*◌, List, length, take, drop, Err, Ok, Result}
use Rattle.label.specs.Layout.{label_size}
use Rattle.salvage.specs.Salvage.{salvaging, salvaged_output, kept_dropping}
use Rattle.refusal.specs.declared.Refusal.{Refusal}
use Rattle.salvage.specs.declared.Kept.{Kept}

-- the most bytes that can be kept, 24,576
abbrev pub most_bytes : ℕ
most_bytes = label_size * 1_024

-- an answer, where so many bytes more are dropped
abbrev pub dropping : ℕ → Result Kept Refusal → Result Kept Refusal
dropping more (Ok found) = Ok (kept_dropping found.labels (found.dropped + more))
dropping more (Err refusal) = Err refusal

-- the output is that of the start alone, and the bytes behind it are dropped
pub record ByStart (body output : List ℕ) : Type 0 where
  pub answer_is : salvaging body (length output) ≡ dropping (length (drop most_bytes body)) (salvaging (take most_bytes body) (length output))
  pub output_is : salvaged_output body output ≡ salvaged_output (take most_bytes body) output

-- of any bytes, with any output (theorem `start_decides`)
abbrev pub StartDecides : Type 0
StartDecides = (body output : List ℕ) → ByStart body output
