-- Salvage of the start of some bytes: its labels are those of all of them, and the first 24,576 bytes decide. Assumes nothing.
use mathlib.Core.Path.{◌≡◌, refl, sym, ap, ◌∙◌}
use mathlib.Core.Bool.{Bool, true, false, cond}
use Prim.Native.Nat.{ℕ, ◌+◌, ◌*◌, ◌≤◌}
use native.Mathlib.Omega.{arith}
use mathlib.Core.List.{List, ◌++◌}
use lib.ListN.{length, take, drop, length-take, length-drop}
use lib.Seq.{take-take}
use Rattle.refusal.specs.declared.Refusal.TheVariants.{OutputLength}
use Rattle.label.specs.Layout.{label_size}
use Rattle.sequence.specs.Sequence.{leading}
use Rattle.trailer.specs.Counts.{counts_of}
use Rattle.trailer.specs.Trailer.{trailer_bytes}
use Rattle.label_file.specs.File.{output_refused}
use Rattle.label_file.specs.Reading.{keeps_at, held_at}
use Rattle.trailer.specs.declared.Form.TheVariants.{Bytes24}
use Rattle.sequence.proofs.Sequences.{leading_same}
use Rattle.label_file.proofs.RoundTrip.{part_start}
use Rattle.trailer.proofs.Tallies.{counts_same}
use Rattle.salvage.specs.Salvage.{whole_labels, kept_labels, kept_bytes, kept_counts, dropped_bytes, salvaged_file, salvaging, output_by, salvaged_output, kept_dropping}
use Rattle.salvage.specs.Start.{most_bytes, dropping, StartDecides}
use Rattle.salvage.proofs.Written.{kept_few, kept_within}
use Rattle.refusal.specs.declared.Refusal.{Refusal}
use Rattle.salvage.specs.declared.Kept.{Kept}
use Rattle.std.specs.Prelude.{Err, Ok, Result}

-- the whole labels of a start, and their counts
module _ (body : List ℕ) (size n : ℕ) (held : label_size * n ≤ length (take size body)) where
  pub start_leading : leading (keeps_at (take size body)) n ≡ leading (keeps_at body) n
  unfolding keeps_at
  start_leading = leading_same (keeps_at (take size body)) (keeps_at body) n (λ k l. rw (part_start body size k (omega arith)))

  start_counts : counts_of (held_at (take size body)) n ≡ counts_of (held_at body) n
  unfolding held_at
  start_counts = counts_same (held_at (take size body)) (held_at body) n (λ k l. rw (part_start body size k (omega arith)))

module _ (body : List ℕ) where
  abbrev first : List ℕ
  first = take most_bytes body

  kept_same : kept_labels (take most_bytes body) ≡ kept_labels body
  unfolding kept_labels
  kept_same =
      let whole : whole_labels (length first) ≡ whole_labels (length body) = omega (arith, length-take most_bytes body) in
      start_leading body most_bytes (whole_labels (length first)) (omega arith) ∙ ap (leading (keeps_at body)) whole

  held : label_size * kept_labels body ≤ length (take most_bytes body)
  held = omega (arith, kept_within first, kept_same)

  file_same : salvaged_file (take most_bytes body) ≡ salvaged_file body
  unfolding salvaged_file kept_bytes kept_counts
  file_same =
      let counts = ap (counts_of (held_at first)) kept_same ∙ start_counts body most_bytes (kept_labels body) held in
      let bytes = ap (λ (k : ℕ). take (label_size * k) first) kept_same ∙ take-take (label_size * kept_labels body) most_bytes body (omega (arith, kept_few body)) in
      λ i. bytes i ++ trailer_bytes Bytes24 (counts i)

  dropped_more : dropped_bytes body ≡ dropped_bytes (take most_bytes body) + length (drop most_bytes body)
  unfolding dropped_bytes
  dropped_more = omega (arith, length-take most_bytes body, length-drop most_bytes body, held, kept_same)

  module _ (output : List ℕ) where
    by_room : (t : Bool) → ◌≡◌ {A = Result Kept Refusal} (cond t (Err OutputLength) (Ok (kept_dropping (kept_labels body) (dropped_bytes body))))
        (dropping (length (drop most_bytes body)) (cond t (Err OutputLength) (Ok (kept_dropping (kept_labels (take most_bytes body)) (dropped_bytes (take most_bytes body))))))
    by_room true = refl
    by_room false = λ i. Ok (kept_dropping (sym kept_same i) (dropped_more i))

    answer_more : salvaging body (length output) ≡ dropping (length (drop most_bytes body)) (salvaging (take most_bytes body) (length output))
    unfolding salvaging
    answer_more =
        by_room (output_refused (kept_labels body) (length output))
        ∙ ap (λ (k : ℕ). dropping (length (drop most_bytes body)) (cond (output_refused k (length output)) (Err OutputLength) (Ok (kept_dropping (kept_labels first) (dropped_bytes first))))) (sym kept_same)

    -- dropped bytes do not show in the output
    by_answer : (r : Result Kept Refusal) (file : List ℕ) (more : ℕ) → output_by (dropping more r) file output ≡ output_by r file output
    by_answer (Ok kept) file more = refl
    by_answer (Err refusal) file more = refl

pub start_decides : StartDecides
unfolding salvaged_output
start_decides body output =
    record {
      answer_is = answer_more body output;
      output_is = (λ i. output_by (answer_more body output i) (sym (file_same body) i) output) ∙ by_answer body output (salvaging (first body) (length output)) _ _;
    }
