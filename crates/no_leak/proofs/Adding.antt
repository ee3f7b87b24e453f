-- Alike telemetry that is added to the files of alike telemetry: adding is labelling at once. Assumes nothing.
use mathlib.Core.Path.{◌≡◌, refl, sym, ap, ◌∙◌}
use mathlib.Core.List.{List, ◌++◌}
use Prim.Native.Nat.{ℕ, ◌+◌}
use native.Mathlib.Omega.{arith}
use lib.ListN.{length, drop, length-append}
use Rattle.elements.specs.declared.Elements.{Elements}
use Rattle.trailer.specs.Trailer.{distance_back}
use Rattle.trailer.specs.declared.Counts.{Counts}
use Rattle.trailer.specs.declared.Form.{Form}
use Rattle.trailer.specs.declared.Form.TheVariants.{Bytes24}
use Rattle.label_file.proofs.RoundTrip.{file_length}
use Rattle.labelling.specs.Records.{records, label_at, labelled_to}
use Rattle.labelling.specs.Day.{labelling, output_after}
use Rattle.labelling.specs.Adding.{adding, buffer_after}
use Rattle.labelling.specs.Continuing.{moved, Continued}
use Rattle.labelling.proofs.Continuing.{adding_continues}
use Rattle.labelling.proofs.PassedRecords.{day_passed}
use Rattle.labelling.proofs.WrittenFile.{end_is, output_is}
use Rattle.labelling.proofs.Joining.{joined_records}
use Rattle.no_leak.specs.Alike.{AlikeDays}
use Rattle.no_leak.specs.Files.{FilesBy, NoLeak}
use Rattle.no_leak.specs.Adding.{file_for, Adding}
use Rattle.no_leak.proofs.AlikeRecords.{same_number, joined_alike}
use Rattle.no_leak.proofs.AtOnce.{labels_number, same_answer, made_files}
use Rattle.labelling.specs.declared.Labelled.{Labelled}
use Rattle.refusal.specs.declared.RefusedAt.{RefusedAt}
use Rattle.std.specs.Prelude.{Err, Ok, Result}

module _ (el : Elements) (one two more more' front front' rest rest' : List ℕ) (form : Form) (room size : ℕ) (counts : Counts) (alike : AlikeDays el one two)
    (labelled : labelling el one room ≡ Ok (labelled_to counts size)) (alike_more : AlikeDays el more more') (as_much : length front ≡ length front') (as_much_behind : length rest ≡ length rest') where
  abbrev out : List ℕ
  out = file_for el form one ++ rest

  abbrev out' : List ℕ
  out' = file_for el form two ++ rest'

  all : AlikeDays el (one ++ more) (two ++ more')
  all = joined_alike el one two more more' alike alike_more (day_passed el one room counts size labelled).records.whole

  same_room : length (file_for el form one ++ rest) ≡ length (file_for el form two ++ rest')
  same_room =
      let n = same_number el one two alike in
      omega (arith, length-append (file_for el form one) rest, length-append (file_for el form two) rest', file_length form (label_at el one) (records one), file_length form (label_at el two) (records two), n)

  continued : Continued el one more front (file_for el form one) rest
  continued = adding_continues el one more front rest form room size counts labelled

  continued' : Continued el two more' front' (file_for el form two) rest'
  continued' = adding_continues el two more' front' rest' form room size counts (sym (same_answer el one two alike refl) ∙ labelled)

  files : (a : Result Labelled RefusedAt) → labelling el (one ++ more) (length (file_for el form one ++ rest)) ≡ a
      → FilesBy (moved (length front) a) (length front) (front ++ output_after el (one ++ more) (file_for el form one ++ rest)) (front' ++ output_after el (two ++ more') (file_for el form two ++ rest'))
  files (Err refused) e = tt
  files (Ok labelled') e =
      let e' = sym (same_answer el (one ++ more) (two ++ more') all same_room) ∙ e in
      rw (output_is el (one ++ more) out labelled'.counts labelled'.end e, output_is el (two ++ more') out' labelled'.counts labelled'.end e')
      (made_files el (one ++ more) (two ++ more') all (length out) labelled'.counts labelled'.end e front front' (drop labelled'.end out) (drop labelled'.end out') (length front) (length front + labelled'.end) refl (sym as_much) refl)

  abbrev n : ℕ
  n = records one + records more

  -- how many labels an accepted file has, and where it ends
  by : (a : Result Labelled RefusedAt) → labelling el (one ++ more) (length (file_for el form one ++ rest)) ≡ a → (c : Counts) (end : ℕ) → moved (length front) a ≡ Ok (labelled_to c end)
      → (c.labels ≡ records one + records more) × (end ≡ length front + distance_back Bytes24 (records one + records more))
  by (Err refused) e c end m = let z : ◌≡◌ {A = ℕ} 0 1 = cc in absurd (omega arith)
  by (Ok labelled') e c end m =
      let together = joined_records one more (day_passed el one room counts size labelled).records.whole in
      let number : labelled'.counts.labels ≡ n = labels_number el (one ++ more) (length out) labelled'.counts labelled'.end e ∙ together in
      let ends : labelled'.end ≡ distance_back Bytes24 n = end_is el (one ++ more) out labelled'.counts labelled'.end e ∙ ap (distance_back Bytes24) together in
      let is : labelled_to labelled'.counts (length front + labelled'.end) ≡ labelled_to c end = cc in
      let same = ap (λ (x : Labelled). x.counts) is in
      let moved_end = ap (λ (x : Labelled). x.end) is in
      (ap (λ (x : Counts). x.labels) (sym same) ∙ number, sym moved_end ∙ ap (λ (k : ℕ). length front + k) ends)

  pub added_sizes : (c : Counts) (end : ℕ) → adding el (front ++ (file_for el form one ++ rest)) (length front + length (file_for el form one)) more ≡ Ok (labelled_to c end)
      → (c.labels ≡ records one + records more) × (end ≡ length front + distance_back Bytes24 (records one + records more))
  added_sizes c end e = by (labelling el (one ++ more) (length out)) refl c end (sym continued.answer_is ∙ e)

  no_leak : NoLeak (length front) (adding el (front ++ (file_for el form one ++ rest)) (length front + length (file_for el form one)) more) (adding el (front' ++ (file_for el form two ++ rest')) (length front' + length (file_for el form two)) more')
      (buffer_after el (front ++ (file_for el form one ++ rest)) (length front + length (file_for el form one)) more) (buffer_after el (front' ++ (file_for el form two ++ rest')) (length front' + length (file_for el form two)) more')
  no_leak =
      record {
        same_answer = continued.answer_is ∙ (λ i. moved (as_much i) (same_answer el (one ++ more) (two ++ more') all same_room i)) ∙ sym continued'.answer_is;
        same_files = rw (continued.answer_is, continued.buffer_is, continued'.buffer_is) (files (labelling el (one ++ more) (length out)) refl);
      }

pub added : Adding
added = no_leak
