-- Days of telemetry that are alike: document 01, "Telemetry and labels". Assumes nothing.
use Rattle.std.specs.Prelude.{◌≡◌, ℕ, ◌<◌, List, length, Ok}
use Rattle.elements.specs.Time.{checked_at}
use Rattle.elements.specs.declared.Elements.{Elements}
use Rattle.orbit.specs.Revolution.{revolution}
use Rattle.telemetry.specs.declared.Sample.{Sample}
use Rattle.label.specs.Sides.{training, side_of}
use Rattle.labelling.specs.Records.{record_at, records}

-- a record whose label is on the training side: neither the elements nor its time is refused, so that it has a label, and the side of
-- its own revolution with the day's elements is training
pub record TrainingRecord (el : Elements) (r : Sample) : Type 0 where
  pub passed : checked_at el r.time ≡ Ok tt
  pub side : side_of (revolution el r.time) ≡ training

-- the same time, and for a training record the same volts and amperes; those of another differ freely
pub record AlikeRecords (el : Elements) (r s : Sample) : Type 0 where
  pub same_time : r.time ≡ s.time
  pub same_volts : TrainingRecord el r → r.volts ≡ s.volts
  pub same_amperes : TrainingRecord el r → r.amperes ≡ s.amperes

-- the same number of bytes, and alike record by record; the bytes of an unfinished last record differ freely
pub record AlikeDays (el : Elements) (one two : List ℕ) : Type 0 where
  pub same_length : length one ≡ length two
  pub alike_records : (k : ℕ) → k < records one → AlikeRecords el (record_at one k) (record_at two k)
