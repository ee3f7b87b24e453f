-- Salvage, of bytes from the first label of a file on: document 01, "Telemetry and labels", and refusal 11. Assumes nothing.
use Rattle.std.specs.Prelude.{cond, ℕ, ◌*◌, ◌-◌, ◌/◌, min, List, ◌++◌, length, take, drop, Err, Ok, Result}
use Rattle.refusal.specs.declared.Refusal.TheVariants.{OutputLength}
use Rattle.label.specs.Layout.{label_size}
use Rattle.sequence.specs.Sequence.{leading}
use Rattle.trailer.specs.Counts.{counts_of}
use Rattle.trailer.specs.Trailer.{distance_back, trailer_bytes}
use Rattle.label_file.specs.File.{output_refused}
use Rattle.label_file.specs.Reading.{keeps_at, held_at}
use Rattle.trailer.specs.declared.Counts.{Counts}
use Rattle.trailer.specs.declared.Form.TheVariants.{Bytes24}
use Rattle.refusal.specs.declared.Refusal.{Refusal}
use Rattle.salvage.specs.declared.Kept.{Kept}

abbrev pub kept_dropping : ℕ → ℕ → Kept
kept_dropping labels dropped = record { labels = labels; dropped = dropped }

-- how many whole 24 bytes are looked at, of so many bytes: up to the end, or 1,024
abbrev pub whole_labels : ℕ → ℕ
whole_labels size = min (size / label_size) 1_024

-- every whole 24 bytes, in order, that keep the field rules are kept, up to the first that do not
unfoldable pub kept_labels : List ℕ → ℕ
kept_labels body = leading (keeps_at body) (whole_labels (length body))

-- their bytes
unfoldable pub kept_bytes : List ℕ → List ℕ
kept_bytes body = take (label_size * kept_labels body) body

-- their counts
unfoldable pub kept_counts : List ℕ → Counts
kept_counts body = counts_of (held_at body) (kept_labels body)

-- all other bytes are dropped
unfoldable pub dropped_bytes : List ℕ → ℕ
dropped_bytes body = length body - label_size * kept_labels body

-- the labels kept, and after them a fresh trailer
unfoldable pub salvaged_file : List ℕ → List ℕ
salvaged_file body = kept_bytes body ++ trailer_bytes Bytes24 (kept_counts body)

-- what salvage answers: 11, where each label kept counts as a record, or the labels kept and the bytes dropped
unfoldable pub salvaging : List ℕ → ℕ → Result Kept Refusal
salvaging body room = cond (output_refused (kept_labels body) room) (Err OutputLength) (Ok (kept_dropping (kept_labels body) (dropped_bytes body)))

abbrev pub output_by : Result Kept Refusal → List ℕ → List ℕ → List ℕ
output_by (Ok found) file output = file ++ drop (distance_back Bytes24 found.labels) output
output_by (Err refusal) file output = output

-- the output afterwards: the file, and past its trailer what stood there; after a refusal, what stood there
unfoldable pub salvaged_output : List ℕ → List ℕ → List ℕ
salvaged_output body output = output_by (salvaging body (length output)) (salvaged_file body) output
