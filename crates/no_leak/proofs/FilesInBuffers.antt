-- Labels in buffers, those of a file with bytes in front and behind among them: their parts, and the scale figures with the file; and
-- two of them whose training labels are the same. Assumes nothing.
use mathlib.Core.Path.{◌≡◌, sym, ap, ◌∙◌}
use mathlib.Core.Bool.{cond}
use mathlib.Core.List.{List, ◌++◌, append_assoc, foldl}
use Prim.Native.Nat.{ℕ, ◌+◌, ◌≤◌, ◌<◌}
use native.Mathlib.Omega.{arith}
use lib.ListN.{length, take, drop}
use lib.Seq.{drop_at}
use Rattle.refusal.specs.declared.Refusal.TheVariants as refusal
use Rattle.label.specs.Codec.{decoded}
use Rattle.label.specs.Layout.{label_bytes}
use Rattle.label.specs.Rules.{LabelRules}
use Rattle.label.specs.declared.Label.{Label}
use Rattle.label.proofs.RoundTrip.{round_trip}
use Rattle.trailer.specs.Counts.{counts_of}
use Rattle.trailer.specs.Trailer.{distance_back, trailer_bytes}
use Rattle.trailer.specs.declared.Form.TheVariants.{Bytes24}
use Rattle.label_file.specs.File.{body_of, file_of, part_at}
use Rattle.label_file.specs.Reading.{held_at, body_in, buffer_reading}
use Rattle.label_file.proofs.Readings.{held}
use Rattle.label_file.proofs.RoundTrip.{part_ahead, body_label, file_label, file_length, buffer_reads_back, file_taken}
use Rattle.label_file.proofs.Writing.{body_length}
use Rattle.scale.specs.Figures.{training_in, with_label, next_file}
use Rattle.scale.specs.Step.{figures_allowed, first_labels, labels_in, scaled_by, scaling}
use Rattle.scale.specs.declared.Figures.{Figures}
use Rattle.no_leak.specs.Files.{SameTraining, SameFiles}
use Rattle.no_leak.proofs.AlikeLabels.{SameOnTraining, training_same}
use Rattle.refusal.specs.Refused.{refused_at}
use Rattle.refusal.specs.declared.RefusedAt.{RefusedAt}
use Rattle.std.specs.Prelude.{Err, Ok, Result}

-- the figures with a file of these training labels
abbrev pub scaled_with : Figures → List Label → Result Figures RefusedAt
scaled_with f ls = cond (figures_allowed f) (Ok (next_file (foldl with_label f ls))) (Err (refused_at refusal.Figures 0))

module _ (label : ℕ → Label) (n : ℕ) where
  part_is : (rest : List ℕ) (k : ℕ) → k < n → part_at (body_of label n ++ rest) k ≡ label_bytes (label k)
  part_is rest k b = part_ahead (body_of label n) rest n k (body_length label n) b ∙ body_label label n k b

  module _ (rules : (k : ℕ) → k < n → LabelRules (label k)) where
    side_is : (rest : List ℕ) (k : ℕ) → k < n → (held_at (body_of label n ++ rest) k).side ≡ (label k).side
    side_is rest k b = ap (λ (l : Label). l.side) (held _ k (label k) (ap decoded (part_is rest k b) ∙ round_trip (label k) (rules k b)))

    module _ (few : n ≤ 1024) (front rest : List ℕ) where
      abbrev file : List ℕ
      file = file_of Bytes24 label n

      abbrev buffer : List ℕ
      buffer = front ++ (file_of Bytes24 label n ++ rest)

      behind_front : (first : ℕ) → length front ≡ first → drop first buffer ≡ body_of label n ++ (trailer_bytes Bytes24 (counts_of label n) ++ rest)
      unfolding file_of
      behind_front first at = drop_at front (file ++ rest) first at ∙ append_assoc (body_of label n) (trailer_bytes Bytes24 (counts_of label n)) rest

      module _ (size : ℕ) (end : length front + length (file_of Bytes24 label n) ≡ size) where
        abbrev read : List ℕ
        read = take size buffer

        list_is : training_in (labels_in read Bytes24 n) ≡ training_in (first_labels label n)
        list_is =
            let taken : read ≡ front ++ file = ap (λ (k : ℕ). take k buffer) (sym end) ∙ file_taken front file rest in
            let same : (k : ℕ) → k < n → held_at (body_in read Bytes24 n) k ≡ label k =
            λ k b. ap (λ (l : List ℕ). held_at (body_in l Bytes24 n) k) taken ∙ held _ k (label k) (file_label label n rules Bytes24 few front k b) in
            training_same (held_at (body_in read Bytes24 n)) label n (λ k b. record { same_side = ap (λ (l : Label). l.side) (same k b); same_label = λ t. same k b })

        pub scaled_is : (f : Figures) → scaling f buffer size ≡ scaled_with f (training_in (first_labels label n))
        unfolding scaling counts_of
        scaled_is f =
            ap (scaled_by f read) (ap (buffer_reading buffer) (sym end) ∙ buffer_reads_back label n rules Bytes24 few front rest)
            ∙ ap (scaled_with f) list_is

-- ---- two of them

module _ (l m : ℕ → Label) (n : ℕ) (rules : (k : ℕ) → k < n → LabelRules (l k)) (rules' : (k : ℕ) → k < n → LabelRules (m k)) (same : (k : ℕ) → k < n → SameOnTraining (l k) (m k)) where
  pub parts_alike : (rest rest' : List ℕ) → SameTraining (body_of l n ++ rest) (body_of m n ++ rest') n
  parts_alike rest rest' =
      record {
        same_sides = λ k b. side_is l n rules rest k b ∙ (same k b).same_side ∙ sym (side_is m n rules' rest' k b);
        same_bytes = λ k b t. part_is l n rest k b ∙ ap label_bytes ((same k b).same_label (sym (side_is l n rules rest k b) ∙ t)) ∙ sym (part_is m n rest' k b);
      }

  -- files, as much in front of each
  pub files_alike : n ≤ 1024 → (front front' rest rest' : List ℕ) (first size : ℕ) → length front ≡ first → length front' ≡ first → first + distance_back Bytes24 n ≡ size
      → SameFiles first n size (front ++ (file_of Bytes24 l n ++ rest)) (front' ++ (file_of Bytes24 m n ++ rest'))
  files_alike few front front' rest rest' first size at at' end =
      let long : length front + length (file_of Bytes24 l n) ≡ size = omega (arith, file_length Bytes24 l n) in
      let long' : length front' + length (file_of Bytes24 m n) ≡ size = omega (arith, file_length Bytes24 m n) in
      record {
        same_training = rw (behind_front l n rules few front rest first at, behind_front m n rules' few front' rest' first at') (parts_alike _ _);
        same_figures = λ f. scaled_is l n rules few front rest size long f ∙ ap (scaled_with f) (training_same l m n same) ∙ sym (scaled_is m n rules' few front' rest' size long' f);
      }
