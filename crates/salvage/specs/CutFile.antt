-- A sound file with nothing in front, cut anywhere: salvage keeps all whole labels before the cut. Assumes nothing.
use Rattle.std.specs.Prelude.{◌≡◌, ℕ, ◌*◌, ◌-◌, ◌/◌, ◌≤◌, min, List, length, take, Ok}
use Rattle.label.specs.Layout.{label_size}
use Rattle.trailer.specs.Trailer.{distance_back}
use Rattle.label_file.specs.Reading.{file_reading}
use Rattle.trailer.specs.declared.Counts.{Counts}
use Rattle.trailer.specs.declared.Form.{Form}
use Rattle.trailer.specs.declared.Form.TheVariants.{Bytes24}
use Rattle.salvage.specs.Salvage.{salvaging, salvaged_output, kept_dropping}
use Rattle.trailer.specs.Counts.{contents_of}

-- reading accepts it, and its first label is at its start
pub record Sound (file : List ℕ) (form : Form) (counts : Counts) : Type 0 where
  pub accepted : file_reading file ≡ Ok (contents_of form counts)
  pub alone : length file ≡ distance_back form counts.labels

-- how many of a file's labels are whole before a cut: all, where it goes through the trailer or behind it
abbrev pub whole_before : ℕ → ℕ → ℕ
whole_before labels cut = min (cut / label_size) labels

-- n labels are kept, byte for byte, and what else is left of the file is dropped
pub record KeptOf (file : List ℕ) (cut n : ℕ) (output : List ℕ) : Type 0 where
  pub answer_is : salvaging (take cut file) (length output) ≡ Ok (kept_dropping n (length (take cut file) - label_size * n))
  pub labels_are : take (label_size * n) (salvaged_output (take cut file) output) ≡ take (label_size * n) file

-- with either trailer, wherever the cut is, and given room (theorem `cut_file`)
abbrev pub CutFile : Type 0
CutFile =
    (file : List ℕ) (form : Form) (counts : Counts) (cut : ℕ) (output : List ℕ) → Sound file form counts
    → distance_back Bytes24 (whole_before counts.labels cut) ≤ length output → KeptOf file cut (whole_before counts.labels cut) output
