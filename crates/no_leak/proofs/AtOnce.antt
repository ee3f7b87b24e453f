-- Alike days that are labelled at once: the answers, and the files. Assumes nothing.
use mathlib.Core.Path.{◌≡◌, refl, sym, ap, ◌∙◌}
use mathlib.Core.Bool.{true, not, ◌||◌, cond}
use mathlib.Core.List.{List, [], ◌++◌}
use Prim.Native.Nat.{ℕ, ◌+◌, ◌-◌, ◌/◌, ◌%◌, ◌≤◌, ◌<◌}
use native.Mathlib.Omega.{arith}
use lib.Dec.{eqb, ltb}
use lib.ListN.{length, drop}
use Rattle.refusal.specs.declared.Refusal.TheVariants.{Time, TelemetryLength, OutputLength}
use Rattle.elements.specs.Elements.{checked}
use Rattle.elements.specs.declared.Elements.{Elements}
use Rattle.telemetry.specs.Records.{record_size}
use Rattle.trailer.specs.Counts.{counts_of, no_counts, ◌plus◌}
use Rattle.trailer.specs.Trailer.{distance_back}
use Rattle.trailer.specs.declared.Counts.{Counts}
use Rattle.trailer.specs.declared.Form.TheVariants.{Bytes24}
use Rattle.trailer.proofs.Tallies.{counts_number, none_plus}
use Rattle.label_file.specs.File.{file_of, output_refused}
use Rattle.labelling.specs.Records.{records, label_at, passes_at, telemetry_refused, labelled_records, labelled_telemetry, checked_first, labelled_to}
use Rattle.labelling.specs.Day.{labelling, output_after}
use Rattle.labelling.proofs.PassedRecords.{PassedDay, day_passed, day_passes}
use Rattle.labelling.proofs.WrittenFile.{output_is}
use Rattle.no_leak.specs.Alike.{AlikeDays}
use Rattle.no_leak.specs.Files.{SameFiles, FilesBy}
use Rattle.no_leak.specs.AtOnce.{AtOnce}
use Rattle.no_leak.proofs.AlikeRecords.{same_number, same_leading, same_counts, rules_one, rules_two, same_training}
use Rattle.no_leak.proofs.FilesInBuffers.{files_alike}
use Rattle.labelling.specs.declared.Labelled.{Labelled}
use Rattle.refusal.specs.Refused.{refused_at}
use Rattle.refusal.specs.declared.RefusedAt.{RefusedAt}
use Rattle.std.specs.Prelude.{Err, Ok, Result}

pub labels_number : (el : Elements) (telemetry : List ℕ) (room : ℕ) (counts : Counts) (size : ℕ) → labelling el telemetry room ≡ Ok (labelled_to counts size) → counts.labels ≡ records telemetry
labels_number el telemetry room counts size e =
    let c = counts_of (label_at el telemetry) (records telemetry) in
    ap (λ (x : Counts). x.labels) (sym (day_passed el telemetry room counts size e).records.counts_are ∙ none_plus c) ∙ counts_number (label_at el telemetry) (records telemetry)

module _ (el : Elements) (one two : List ℕ) (alike : AlikeDays el one two) where
  pub same_answer : {room room' : ℕ} → room ≡ room' → labelling el one room ≡ labelling el two room'
  unfolding labelling labelled_telemetry telemetry_refused output_refused labelled_records
  same_answer same_room =
      let long = alike.same_length in
      let passed = same_leading el one two alike in
      let counts = same_counts el one two alike in
      λ i.
      let n = long i / record_size in
      let labels = no_counts.labels + n in
      checked_first (checked el)
      (cond (not (eqb (long i % record_size) 0) || ltb 1_024 labels) (Err (refused_at TelemetryLength 0))
      (cond (ltb (same_room i - 0) (distance_back Bytes24 labels)) (Err (refused_at OutputLength 0))
      (cond (ltb (passed i) n) (Err (refused_at Time (no_counts.labels + passed i))) (Ok (labelled_to (no_counts plus counts i) (0 + distance_back Bytes24 labels))))))

  -- ---- where they are labelled

  module _ (room : ℕ) (counts : Counts) (size : ℕ) (labelled : labelling el one room ≡ Ok (labelled_to counts size)) where
    day : PassedDay el one room counts size
    day = day_passed el one room counts size labelled

    passing : (k : ℕ) → k < records one → passes_at el one k ≡ true
    passing = day_passes day

    few : records one ≤ 1024
    unfolding no_counts
    few = omega (arith, day.records.few)

    ends : distance_back Bytes24 (records one) ≡ size
    unfolding no_counts
    ends = omega (arith, day.records.end_is)

    -- the two files, as much in front of each
    pub made_files : (front front' rest rest' : List ℕ) (first end : ℕ) → length front ≡ first → length front' ≡ first → first + size ≡ end
        → SameFiles first counts.labels end (front ++ (file_of Bytes24 (label_at el one) (records one) ++ rest)) (front' ++ (file_of Bytes24 (label_at el two) (records two) ++ rest'))
    made_files front front' rest rest' first end at at' to =
        let c = day.elements in
        rw (labels_number el one room counts size labelled, sym (same_number el one two alike))
        (files_alike (label_at el one) (label_at el two) (records one) (rules_one el one two alike c passing) (rules_two el one two alike c passing) (same_training el one two alike c passing) few
        front front' rest rest' first end at at' (omega (arith, ends)))

  module _ (output output' : List ℕ) (same_room : length output ≡ length output') where
    by : (answer : Result Labelled RefusedAt) → labelling el one (length output) ≡ answer → FilesBy answer 0 (output_after el one output) (output_after el two output')
    by (Err refused) e = tt
    by (Ok labelled') e =
        let e' = sym (same_answer same_room) ∙ e in
        rw (output_is el one output labelled'.counts labelled'.end e, output_is el two output' labelled'.counts labelled'.end e')
        (made_files (length output) labelled'.counts labelled'.end e [] [] (drop labelled'.end output) (drop labelled'.end output') 0 labelled'.end refl refl (omega arith))

pub at_once : AtOnce
at_once el one two output output' alike same_room =
    record {
      same_answer = same_answer el one two alike same_room;
      same_files = by el one two alike output output' same_room (labelling el one (length output)) refl;
    }
