-- Alike days: their records are refused alike, their labels have the same counts, and their training labels are the same; days that are
-- cut and joined. Assumes nothing.
use mathlib.Core.Path.{◌≡◌, sym, ap, subst, ◌∙◌}
use mathlib.Core.Bool.{true, not}
use mathlib.Core.Logic.{dite}
use mathlib.Core.List.{List, ◌++◌, append_assoc}
use Prim.Native.Nat.{ℕ, ◌+◌, ◌*◌, ◌-◌, ◌/◌, ◌%◌, ◌≤◌, ◌<◌}
use native.Mathlib.Decide.{dec_le}
use native.Mathlib.Omega.{arith}
use lib.IntN.{ℤ}
use lib.ListN.{length, get_or, take, drop, length-append, length-drop, take-append-drop}
use lib.Seq.{length-take-le, take-append_seam, drop-append-le, get_or-take, get_or-drop}
use Rattle.elements.specs.Elements.{checked}
use Rattle.elements.specs.Time.{time_refused}
use Rattle.elements.specs.declared.Elements.{Elements}
use Rattle.orbit.specs.Placement.{state_of}
use Rattle.sun.specs.Sun.{sun_of}
use Rattle.shade.specs.Codes.{shade_code}
use Rattle.eclipse.specs.Shade.{shade_of}
use Rattle.telemetry.specs.Records.{record_size}
use Rattle.telemetry.specs.declared.Sample.{Sample}
use Rattle.telemetry.proofs.SameBytes.{sample_same}
use Rattle.label.specs.Rules.{LabelRules}
use Rattle.label.specs.Sides.{training, side_of}
use Rattle.sequence.specs.Sequence.{leading}
use Rattle.trailer.specs.Counts.{counts_of}
use Rattle.sequence.proofs.Sequences.{leading_same}
use Rattle.labelling.specs.Record.{label_with, label_for, passes}
use Rattle.labelling.specs.Records.{record_at, records, label_at, passes_at}
use Rattle.labelling.proofs.Joining.{record_first, record_second}
use Rattle.labelling.proofs.LabelFields.{label_rules}
use Rattle.labelling.proofs.Passing.{passes_checked}
use Rattle.packets.specs.Packet.{unfinished}
use Rattle.no_leak.specs.Alike.{TrainingRecord, AlikeRecords, AlikeDays}
use Rattle.no_leak.proofs.AlikeLabels.{SameCounted, counts_alike, SameOnTraining}
use Rattle.std.specs.Prelude.{Ok}

-- ---- two records

module _ (el : Elements) (r s : Sample) (a : AlikeRecords el r s) where
  same_passes : passes el r ≡ passes el s
  unfolding passes
  same_passes = ap (λ (t : ℤ). not (time_refused el t)) a.same_time

  same_counted : SameCounted (label_for el r) (label_for el s)
  unfolding label_for label_with
  same_counted =
      record {
        same_side = ap (λ (t : ℤ). side_of (state_of el t).revolution) a.same_time;
        same_shade = ap (λ (t : ℤ). shade_code (shade_of (state_of el t).position (sun_of t).direction)) a.same_time;
      }

  same_sample : TrainingRecord el r → r ≡ s
  same_sample t = λ i. record { time = a.same_time i; volts = a.same_volts t i; amperes = a.same_amperes t i }

  training_record : checked el ≡ Ok tt → passes el r ≡ true → (label_for el r).side ≡ training → TrainingRecord el r
  unfolding label_for label_with state_of
  training_record c p t = record { passed = passes_checked el r c p; side = t }

  same_on_training : checked el ≡ Ok tt → passes el r ≡ true → SameOnTraining (label_for el r) (label_for el s)
  same_on_training c p =
      record { same_side = same_counted.same_side; same_label = λ t. ap (label_for el) (same_sample (training_record c p t)) }

-- ---- two days

module _ (el : Elements) (one two : List ℕ) (alike : AlikeDays el one two) where
  pub same_number : records one ≡ records two
  same_number = omega (arith, alike.same_length)

  passing_same : (k : ℕ) → k < records one → passes_at el one k ≡ passes_at el two k
  unfolding passes_at
  passing_same k b = same_passes el (record_at one k) (record_at two k) (alike.alike_records k b)

  pub same_leading : leading (passes_at el one) (records one) ≡ leading (passes_at el two) (records two)
  same_leading = leading_same (passes_at el one) (passes_at el two) (records one) passing_same ∙ ap (leading (passes_at el two)) same_number

  pub same_counts : counts_of (label_at el one) (records one) ≡ counts_of (label_at el two) (records two)
  unfolding label_at
  same_counts =
      counts_alike (label_at el one) (label_at el two) (records one) (λ k b. same_counted el (record_at one k) (record_at two k) (alike.alike_records k b))
      ∙ ap (counts_of (label_at el two)) same_number

  -- where no record is refused
  module _ (c : checked el ≡ Ok tt) (passing : (k : ℕ) → k < records one → passes_at el one k ≡ true) where
    pub rules_one : (k : ℕ) → k < records one → LabelRules (label_at el one k)
    unfolding label_at passes_at
    rules_one k b = label_rules el (record_at one k) c (passing k b)

    pub rules_two : (k : ℕ) → k < records one → LabelRules (label_at el two k)
    unfolding label_at passes_at
    rules_two k b = label_rules el (record_at two k) c (sym (passing_same k b) ∙ passing k b)

    pub same_training : (k : ℕ) → k < records one → SameOnTraining (label_at el one k) (label_at el two k)
    unfolding label_at passes_at
    same_training k b = same_on_training el (record_at one k) (record_at two k) (alike.alike_records k b) c (passing k b)

-- ---- days that are cut

module _ (xs : List ℕ) (n m : ℕ) where
  record_part : (k : ℕ) → record_size * (k + 1) ≤ m → record_at (take m (drop (record_size * n) xs)) k ≡ record_at xs (n + k)
  unfolding record_at
  record_part k h =
      sample_same (take m (drop (record_size * n) xs)) xs (record_size * k) (record_size * (n + k))
      (λ i b.
      let at : record_size * n + (record_size * k + i) ≡ record_size * (n + k) + i = omega arith in
      get_or-take m (drop (record_size * n) xs) (record_size * k + i) 0 (omega arith) ∙ get_or-drop (record_size * n) xs (record_size * k + i) 0 ∙ ap (λ (j : ℕ). get_or xs j 0) at)

  part_length : record_size * n + m ≤ length xs → length (take m (drop (record_size * n) xs)) ≡ m
  part_length h = length-take-le m (drop (record_size * n) xs) (omega (arith, length-drop (record_size * n) xs))

-- a part that begins with a record
alike_part : (el : Elements) (one two : List ℕ) (n m : ℕ) → AlikeDays el one two → record_size * n + m ≤ length one → AlikeDays el (take m (drop (record_size * n) one)) (take m (drop (record_size * n) two))
alike_part el one two n m alike h =
    let long = part_length one n m h in
    let long' = part_length two n m (omega (arith, alike.same_length)) in
    record {
      same_length = long ∙ sym long';
      alike_records = λ k b. rw (record_part one n m k (omega (arith, long)), record_part two n m k (omega (arith, long))) (alike.alike_records (n + k) (omega (arith, long)));
    }

-- what the whole records of some bytes leave, and a packet behind it
pending_part : (bytes packet rest : List ℕ) → unfinished bytes ++ packet ≡ take (length (unfinished bytes ++ packet)) (drop (record_size * records bytes) (bytes ++ (packet ++ rest)))
pending_part bytes packet rest =
    let left = unfinished bytes in
    sym (ap (take (length (left ++ packet))) (drop-append-le (record_size * records bytes) bytes (packet ++ rest) (omega arith) ∙ sym (append_assoc left packet rest)) ∙ take-append_seam (left ++ packet) rest)

pub pending_alike : (el : Elements) (bytes bytes' packet packet' rest rest' : List ℕ) → length bytes ≡ length bytes' → length packet ≡ length packet' → AlikeDays el (bytes ++ (packet ++ rest)) (bytes' ++ (packet' ++ rest'))
    → AlikeDays el (unfinished bytes ++ packet) (unfinished bytes' ++ packet')
pending_alike el bytes bytes' packet packet' rest rest' as_long packet_as_long alike =
    let n = records bytes in
    let m = length (unfinished bytes ++ packet) in
    let lengths = length-append (unfinished bytes) packet in
    let left = length-drop (record_size * n) bytes in
    let same_n : records bytes' ≡ n = ap (λ (l : ℕ). l / record_size) (sym as_long) in
    let same_m : length (unfinished bytes' ++ packet') ≡ m = omega (arith, lengths, left, length-append (unfinished bytes') packet', length-drop (record_size * records bytes') bytes', same_n) in
    let part' = pending_part bytes' packet' rest' ∙ (λ i. take (same_m i) (drop (record_size * same_n i) (bytes' ++ (packet' ++ rest')))) in
    rw (pending_part bytes packet rest, part')
    (alike_part el (bytes ++ (packet ++ rest)) (bytes' ++ (packet' ++ rest')) n m alike (omega (arith, lengths, left, length-append bytes (packet ++ rest), length-append packet rest)))

-- ---- days that are joined, the first parts whole

module _ (el : Elements) (one two more more' : List ℕ) (alike : AlikeDays el one two) (alike' : AlikeDays el more more') (whole : length one % record_size ≡ 0) where
  pub joined_alike : AlikeDays el (one ++ more) (two ++ more')
  joined_alike =
      let whole' : length two % record_size ≡ 0 = omega (arith, alike.same_length) in
      let n = same_number el one two alike in
      record {
        same_length = omega (arith, length-append one more, length-append two more', alike.same_length, alike'.same_length);
        alike_records = λ k b.
            dite (dec_le (records one) k)
            (λ (h : records one ≤ k).
            let j = k - records one in
            let second : records one + j ≡ k = omega arith in
            let at : record_at (one ++ more) k ≡ record_at more j = ap (record_at (one ++ more)) (sym second) ∙ record_second one more whole j in
            let at' : record_at (two ++ more') k ≡ record_at more' j = ap (record_at (two ++ more')) (sym (ap (λ (i : ℕ). i + j) (sym n) ∙ second)) ∙ record_second two more' whole' j in
            rw (at, at') (alike'.alike_records j (omega (arith, length-append one more))))
            (λ h.
            let first : k < records one = omega (arith, h) in
            rw (record_first one more whole k first, record_first two more' whole' k (omega (arith, n))) (alike.alike_records k first));
      }

-- alike bytes, and what their whole records leave with alike others behind
pub grown_alike : (el : Elements) (bytes bytes' more more' : List ℕ) → AlikeDays el bytes bytes' → AlikeDays el (unfinished bytes ++ more) (unfinished bytes' ++ more') → AlikeDays el (bytes ++ more) (bytes' ++ more')
grown_alike el bytes bytes' more more' alike rest =
    let m = record_size * records bytes in
    let m' : record_size * records bytes' ≡ m = omega (arith, alike.same_length) in
    let all : (b c : List ℕ) (k : ℕ) → take k b ++ (drop k b ++ c) ≡ b ++ c = λ b c k. sym (append_assoc (take k b) (drop k b) c) ∙ ap (λ (l : List ℕ). l ++ c) (take-append-drop k b) in
    let first = alike_part el bytes bytes' 0 m alike (omega arith) in
    let whole : length (take m bytes) % record_size ≡ 0 = omega (arith, length-take-le m bytes (omega arith)) in
    rw (sym (all bytes more m), sym (all bytes' more' m)) (joined_alike el (take m bytes) (take m bytes') (unfinished bytes ++ more) (drop m bytes' ++ more') first (subst (λ (k : ℕ). AlikeDays el (unfinished bytes ++ more) (drop k bytes' ++ more')) m' rest) whole)
