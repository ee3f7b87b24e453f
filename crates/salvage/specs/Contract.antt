-- What salvage owes. Assumes nothing.
use Rattle.std.specs.Prelude.{◌≡◌, ℕ, ◌+◌, ◌*◌, ◌<◌, List, ◌++◌, length, take, Err, Ok, Result}
use Rattle.label.specs.Layout.{label_size}
use Rattle.trailer.specs.Counts.{counts_of, contents_of}
use Rattle.trailer.specs.Trailer.{distance_back}
use Rattle.label_file.specs.File.{part_at}
use Rattle.label_file.specs.Reading.{held_at, body_in, file_reading}
use Rattle.label_file.specs.Stored.{StoredCounts}
use Rattle.trailer.specs.declared.Form.TheVariants.{Bytes24}
use Rattle.salvage.specs.Salvage.{salvaging, salvaged_output}
use Rattle.refusal.specs.declared.Refusal.{Refusal}
use Rattle.salvage.specs.declared.Kept.{Kept}

-- whatever stands ahead of the file, reading accepts it with the counts of the labels kept, which its trailer states; each label is
-- the one of its number in the bytes given; and each byte given is kept or dropped
pub record Saves (body file : List ℕ) (labels dropped : ℕ) : Type 0 where
  pub accepted : (front : List ℕ) → file_reading (front ++ file) ≡ Ok (contents_of Bytes24 (counts_of (held_at body) labels))
  pub stored : StoredCounts file (counts_of (held_at body) labels)
  pub label_is : (front : List ℕ) (k : ℕ) → k < labels → part_at (body_in (front ++ file) Bytes24 labels) k ≡ part_at body k
  pub each_byte : label_size * labels + dropped ≡ length body

-- by the cases of the answer
abbrev pub SalvageOwes : List ℕ → List ℕ → Result Kept Refusal → Type 0
SalvageOwes body after (Ok found) = Saves body (take (distance_back Bytes24 found.labels) after) found.labels found.dropped
SalvageOwes body after (Err refusal) = Unit {0}

-- the answer, the output afterwards, and that the file in it reads back
pub record Salvaged (body before after : List ℕ) (r : Result Kept Refusal) : Type 0 where
  pub answer_is : r ≡ salvaging body (length before)
  pub output_is : after ≡ salvaged_output body before
  pub owes : SalvageOwes body after r
