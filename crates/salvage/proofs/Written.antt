-- The labels that salvage keeps, the file of them, which reads back, and the output. Assumes nothing.
use mathlib.Core.Path.{◌≡◌, refl, sym, ap, ◌∙◌, subst}
use Prim.Native.Nat.{ℕ, ◌+◌, ◌*◌, ◌-◌, ◌≤◌, ◌<◌}
use native.Mathlib.Omega.{arith}
use mathlib.Core.Bool.{Bool, true, false, cond}
use mathlib.Core.List.{List, [], ◌++◌}
use lib.ListN.{length, take, drop, length-append, length-drop}
use lib.Seq.{sets, sets-eq, take_at, drop-drop, drop_at, length-take-le}
use borrow.Author.Tests.{le-ltb, lt-ltb, ltb-false}
use Rattle.endian.proofs.Slices.{start_part}
use Rattle.refusal.specs.declared.Refusal.{Refusal}
use Rattle.refusal.specs.declared.Refusal.TheVariants.{OutputLength}
use Rattle.label.specs.Layout.{label_size}
use Rattle.sequence.specs.Sequence.{leading}
use Rattle.trailer.specs.Counts.{counts_of, contents_of}
use Rattle.trailer.specs.Trailer.{trailer_size, distance_back, trailer_bytes}
use Rattle.label_file.specs.File.{part_at, output_refused}
use Rattle.label_file.specs.Reading.{keeps_at, held_at, file_reading, buffer_reading}
use Rattle.trailer.specs.declared.Counts.{Counts}
use Rattle.trailer.specs.declared.Form.TheVariants.{Bytes24}
use Rattle.label_file.proofs.Accepted.{stored_counts}
use Rattle.label_file.proofs.Readings.{read_within}
use Rattle.label_file.proofs.RoundTrip.{part_start, closed_accepted, closed_label}
use Rattle.sequence.proofs.Sequences.{leading_le, leading_holds}
use Rattle.trailer.proofs.Tallies.{counts_same}
use Rattle.trailer.proofs.Trailers.{trailer_length}
use Rattle.salvage.specs.Salvage.{whole_labels, kept_labels, kept_bytes, kept_counts, dropped_bytes, salvaged_file, salvaging, output_by, salvaged_output, kept_dropping}
use Rattle.salvage.specs.Contract.{Saves, Salvaged}
use Rattle.salvage.specs.declared.Kept.{Kept}
use Rattle.std.specs.Prelude.{Err, Ok, Result}

-- the start of some bytes, copied over another start
pub start_copied : (body output : List ℕ) (size : ℕ) {m : List ℕ} → m ≡ take (size - 0) (drop 0 body)
    → m ++ drop (size - 0) (drop 0 output) ≡ take size body ++ drop size output
start_copied body output size e =
    let zero : size - 0 ≡ size = omega arith in
    (λ i. (e ∙ start_part body size) i ++ drop (zero i) output)

module _ (body : List ℕ) where
  abbrev n : ℕ
  n = kept_labels body

  -- ---- the labels kept

  -- their counts, as they are found over the whole labels
  pub counts_kept : {m : ℕ} {counts : Counts} → m ≡ whole_labels (length body) → counts ≡ counts_of (held_at body) (leading (keeps_at body) m) → counts ≡ kept_counts body
  unfolding kept_counts kept_labels
  counts_kept m c = c ∙ ap (λ (k : ℕ). counts_of (held_at body) (leading (keeps_at body) k)) m

  pub kept_number : (kept_counts body).labels ≡ kept_labels body
  unfolding kept_counts counts_of
  kept_number = refl

  kept_whole : kept_labels body ≤ whole_labels (length body)
  unfolding kept_labels
  kept_whole = leading_le (keeps_at body) (whole_labels (length body))

  pub kept_few : kept_labels body ≤ 1_024
  kept_few = omega (arith, kept_whole)

  pub kept_within : label_size * kept_labels body ≤ length body
  kept_within = omega (arith, kept_whole)

  each_byte : label_size * kept_labels body + dropped_bytes body ≡ length body
  unfolding dropped_bytes
  each_byte = omega (arith, kept_within)

  -- ---- the file

  pub kept_length : length (kept_bytes body) ≡ label_size * kept_labels body
  unfolding kept_bytes
  kept_length = length-take-le (label_size * n) body kept_within

  kept_part : (k : ℕ) → k < kept_labels body → part_at (kept_bytes body) k ≡ part_at body k
  unfolding kept_bytes
  kept_part k l = part_start body (label_size * n) k (omega (arith, kept_length))

  counts_are : counts_of (held_at (kept_bytes body)) (kept_labels body) ≡ kept_counts body
  unfolding held_at kept_counts
  counts_are = counts_same (held_at (kept_bytes body)) (held_at body) n (λ k l. rw (kept_part k l))

  bytes_keep : (k : ℕ) → k < kept_labels body → keeps_at (kept_bytes body) k ≡ true
  unfolding keeps_at kept_labels
  bytes_keep k l = rw (kept_part k l) (leading_holds (keeps_at body) (whole_labels (length body)) k l)

  file_accepted : (front : List ℕ) → file_reading (front ++ salvaged_file body) ≡ Ok (contents_of Bytes24 (kept_counts body))
  unfolding salvaged_file
  file_accepted front =
      subst (λ (c : Counts). file_reading (front ++ (kept_bytes body ++ trailer_bytes Bytes24 c)) ≡ Ok (contents_of Bytes24 c)) counts_are
      (closed_accepted Bytes24 (kept_bytes body) n kept_length kept_few bytes_keep front)

  saves : Saves body (salvaged_file body) (kept_labels body) (dropped_bytes body)
  unfolding salvaged_file kept_counts counts_of
  saves =
      record {
        accepted = file_accepted;
        stored = stored_counts (salvaged_file body) (kept_counts body) (file_accepted []);
        label_is = λ front k l. rw (← counts_are) (closed_label Bytes24 (kept_bytes body) n kept_length kept_few bytes_keep front k l ∙ kept_part k l);
        each_byte = each_byte;
      }

  file_length : length (salvaged_file body) ≡ distance_back Bytes24 (kept_labels body)
  unfolding salvaged_file
  file_length = omega (arith, length-append (kept_bytes body) (trailer_bytes Bytes24 (kept_counts body)), kept_length, trailer_length Bytes24 (kept_counts body))

  -- ---- the answer and the output

  module _ (output : List ℕ) where
    pub output_refused_lem : length output < distance_back Bytes24 (kept_labels body) → Salvaged body output output (Err OutputLength)
    unfolding salvaged_output salvaging output_refused
    output_refused_lem h = record { answer_is = rw (lt-ltb _ _ h); output_is = rw (lt-ltb _ _ h); owes = tt }

    pub refused_stays : (refusal : Refusal) → salvaging body (length output) ≡ Err refusal → salvaged_output body output ≡ output
    unfolding salvaged_output
    refused_stays refusal e = ap (λ (r : Result Kept Refusal). output_by r (salvaged_file body) output) e

    module _ (enough : distance_back Bytes24 (kept_labels body) ≤ length output) where
      pub answer_is : salvaging body (length output) ≡ Ok (kept_dropping (kept_labels body) (dropped_bytes body))
      unfolding salvaging output_refused
      answer_is = rw (le-ltb _ _ enough)

      pub output_is : salvaged_output body output ≡ salvaged_file body ++ drop (distance_back Bytes24 (kept_labels body)) output
      unfolding salvaged_output
      output_is = ap (λ (r : Result Kept Refusal). output_by r (salvaged_file body) output) answer_is

      file_is : take (distance_back Bytes24 (kept_labels body)) (salvaged_output body output) ≡ salvaged_file body
      file_is = ap (take (distance_back Bytes24 n)) output_is ∙ take_at (salvaged_file body) (drop (distance_back Bytes24 n) output) (distance_back Bytes24 n) file_length

      -- the labels over the start of the output, and the trailer behind them
      stored : sets (kept_bytes body ++ drop (label_size * kept_labels body) output) (label_size * kept_labels body) (trailer_bytes Bytes24 (kept_counts body)) ≡ salvaged_output body output
      unfolding salvaged_file
      stored =
          let at = label_size * n in
          let rest = drop at output in
          let trailer = trailer_bytes Bytes24 (kept_counts body) in
          let size = trailer_length Bytes24 (kept_counts body) in
          let behind = sym (drop-drop (trailer_size Bytes24) at (kept_bytes body ++ rest)) ∙ ap (drop (trailer_size Bytes24)) (drop_at (kept_bytes body) rest at kept_length) ∙ drop-drop (trailer_size Bytes24) at output in
          sets-eq trailer (kept_bytes body ++ rest) at (omega (arith, size, length-append (kept_bytes body) rest, kept_length, length-drop at output))
          ∙ (λ i. take_at (kept_bytes body) rest at kept_length i ++ trailer ++ drop (at + size i) (kept_bytes body ++ rest))
          ∙ ap (λ (l : List ℕ). kept_bytes body ++ trailer ++ l) behind ∙ sym output_is

      pub salvaged : {m p : List ℕ} {counts : Counts} → counts ≡ kept_counts body
          → m ≡ take (label_size * counts.labels) body ++ drop (label_size * counts.labels) output
          → p ≡ sets m (label_size * counts.labels) (trailer_bytes Bytes24 counts)
          → Salvaged body output p (Ok (kept_dropping counts.labels (length body - label_size * counts.labels)))
      unfolding kept_counts kept_bytes dropped_bytes counts_of
      salvaged {m} {p} c e f =
          let copied = e ∙ ap (λ (x : Counts). take (label_size * x.labels) body ++ drop (label_size * x.labels) output) c in
          let o = f ∙ (λ i. sets (copied i) (label_size * (c i).labels) (trailer_bytes Bytes24 (c i))) ∙ stored in
          subst (Salvaged body output p) (ap (λ (x : Counts). Ok (kept_dropping x.labels (length body - label_size * x.labels))) (sym c))
          (record { answer_is = sym answer_is; output_is = o; owes = rw (ap (take (distance_back Bytes24 n)) o ∙ file_is) saves })

    -- what an answer that keeps labels says: few, and with the bytes dropped all that was given; and the file in the output is accepted with their counts
    abbrev Says : ℕ → ℕ → Type 0
    Says labels dropped =
        (labels ≤ 1_024) × (label_size * labels + dropped ≡ length body) × (buffer_reading (salvaged_output body output) (distance_back Bytes24 labels) ≡ Ok (contents_of Bytes24 (counts_of (held_at body) labels)))

    says : distance_back Bytes24 (kept_labels body) ≤ length output → Says (kept_labels body) (dropped_bytes body)
    unfolding kept_counts
    says enough =
        let held = length-append (salvaged_file body) (drop (distance_back Bytes24 n) output) in
        let within : distance_back Bytes24 n ≤ length (salvaged_output body output) = omega (arith, ap length (output_is enough), held, file_length) in
        (kept_few, each_byte, read_within (salvaged_output body output) _ within ∙ ap file_reading (file_is enough) ∙ file_accepted [])

    by_room : (labels dropped : ℕ) (t : Bool) → output_refused (kept_labels body) (length output) ≡ t
        → cond t (Err OutputLength) (Ok (kept_dropping (kept_labels body) (dropped_bytes body))) ≡ Ok (kept_dropping labels dropped) → Says labels dropped
    unfolding output_refused
    by_room labels dropped true e a = let z : ◌≡◌ {A = ℕ} 0 1 = cc in absurd (omega arith)
    by_room labels dropped false e a =
        let r : kept_dropping (kept_labels body) (dropped_bytes body) ≡ kept_dropping labels dropped = cc in
        let k : kept_labels body ≡ labels = ap (λ (x : Kept). x.labels) r in
        let d : dropped_bytes body ≡ dropped = ap (λ (x : Kept). x.dropped) r in
        subst (λ (x : ℕ). Says x dropped) k (subst (Says (kept_labels body)) d (says (ltb-false _ _ e)))

    pub kept_says : (labels dropped : ℕ) → salvaging body (length output) ≡ Ok (kept_dropping labels dropped) → Says labels dropped
    unfolding salvaging
    kept_says labels dropped a = by_room labels dropped (output_refused (kept_labels body) (length output)) refl a
