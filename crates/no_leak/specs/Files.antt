-- What alike days leave the same in two label files. `scaling` is what `scale::add_file` gives, by its contract. Assumes nothing.
use Rattle.std.specs.Prelude.{◌≡◌, ℕ, ◌<◌, List, drop, Err, Ok, Result}
use Rattle.label.specs.Sides.{training}
use Rattle.label_file.specs.File.{part_at}
use Rattle.label_file.specs.Reading.{held_at}
use Rattle.scale.specs.Step.{scaling}
use Rattle.scale.specs.declared.Figures.{Figures}
use Rattle.labelling.specs.declared.Labelled.{Labelled}
use Rattle.refusal.specs.declared.RefusedAt.{RefusedAt}

-- n labels from the start of some bytes, and n from the start of others: labels of the same number have the same side, and on the training
-- side the same 24 bytes
pub record SameTraining (one two : List ℕ) (n : ℕ) : Type 0 where
  pub same_sides : (k : ℕ) → k < n → (held_at one k).side ≡ (held_at two k).side
  pub same_bytes : (k : ℕ) → k < n → (held_at one k).side ≡ training → part_at one k ≡ part_at two k

-- two label files in the first `size` bytes of two buffers, their n labels from `first` on: the training labels; and the scale figures
-- with the file, from any figures before, which are the same or refused alike
pub record SameFiles (first n size : ℕ) (one two : List ℕ) : Type 0 where
  pub same_training : SameTraining (drop first one) (drop first two) n
  pub same_figures : (f : Figures) → scaling f one size ≡ scaling f two size

-- by the cases of an answer about one of them: a refusal wrote no file
abbrev pub FilesBy : Result Labelled RefusedAt → ℕ → List ℕ → List ℕ → Type 0
FilesBy (Ok labelled) first one two = SameFiles first labelled.counts.labels labelled.end one two
FilesBy (Err error) first one two = Unit {0}

-- two answers, and the buffers afterwards: refused alike, with the same number at the same place, or accepted with the same counts
-- and the same end; and the files
pub record NoLeak (first : ℕ) (answer answer' : Result Labelled RefusedAt) (one two : List ℕ) : Type 0 where
  pub same_answer : answer ≡ answer'
  pub same_files : FilesBy answer first one two
