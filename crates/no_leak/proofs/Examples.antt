-- The examples, computed: two days that are alike and differ, and one whose training record differs. Assumes nothing.
use mathlib.Core.Path.{◌≡◌, refl, sym, ap, ◌∙◌}
use mathlib.Core.List.{List, [], flat_map, foldl}
use Prim.Native.Nat.{ℕ, zero, suc, ◌≤◌, ◌<◌}
use native.Mathlib.Omega.{arith}
use lib.ListN.{length, drop, replicate}
use lib.Ieee.{Float, binary32, is_nan, of_bits, to_bits, mul}
use Rattle.endian.specs.LittleEndian.{bytes4, bytes8}
use Rattle.time.specs.Range.{in_range}
use Rattle.elements.specs.Elements.{refuse_if, perigee_below, checked_to7, checked}
use Rattle.elements.specs.Time.{times_refused, time_refused, checked_at}
use Rattle.elements.specs.declared.Elements.{Elements}
use Rattle.orbit.specs.Placement.{state_of}
use Rattle.orbit.specs.Revolution.{gain, node_passages, revolution}
use Rattle.orbit.specs.Turns.{whole_turns, part_turn, linear_term, quadratic_term, advance, drift}
use Rattle.telemetry.specs.Readings.{reading_of}
use Rattle.telemetry.specs.Records.{sample_of}
use Rattle.telemetry.specs.declared.Reading.{Reading}
use Rattle.telemetry.specs.declared.Reading.TheVariants.{Valid}
use Rattle.label.specs.Sides.{withheld, training, test, side_of}
use Rattle.sequence.specs.Sequence.{leading}
use Rattle.trailer.specs.Counts.{is_on, counts_of, no_counts}
use Rattle.trailer.specs.Trailer.{trailer_size}
use Rattle.trailer.specs.declared.Counts.{Counts}
use Rattle.trailer.proofs.Tallies.{none_plus}
use Rattle.label_file.specs.File.{output_refused}
use Rattle.labelling.specs.Record.{label_with, label_for, passes}
use Rattle.labelling.specs.Records.{record_at, records, label_at, passes_at, telemetry_refused, labelled_records, labelled_telemetry, labelled_to}
use Rattle.labelling.specs.Day.{labelling, output_after}
use Rattle.labelling.proofs.PassedRecords.{day_passed, label_keeps}
use Rattle.labelling.proofs.WrittenFile.{end_is, output_is}
use Rattle.label_file.proofs.RoundTrip.{file_length}
use Rattle.trailer.specs.declared.Form.TheVariants.{Bytes24}
use Rattle.extreme.specs.Extremes.{keep}
use Rattle.extreme.specs.declared.Kind.TheVariants.{Greatest}
use Rattle.scale.specs.Figures.{watts_in, training_in, nothing, with_label, next_file}
use Rattle.scale.specs.Step.{figures_allowed, first_labels, scaling}
use Rattle.scale.specs.declared.Figures.{Figures}
use Rattle.packets.specs.Day.{opening_step}
use Rattle.packets.specs.Cutting.{all_bytes}
use Rattle.no_leak.specs.Alike.{TrainingRecord, AlikeRecords}
use Rattle.no_leak.specs.Packets.{CutAlike}
use Rattle.no_leak.specs.Examples.{satellite, five32, six32, nan32, ten, twelve, record_of, three_records, first_day, alike_day, unlike_day, figures_for, greatest_by, AlikeExample, PacketsExample, UnlikeExample}
use Rattle.no_leak.proofs.FilesInBuffers.{scaled_with, scaled_is}
use Rattle.std.specs.Prelude.{None, Ok, Option, Some}

-- ---- three records, whatever their volts

module _ (v w x : ℕ) where
  labelled : labelling satellite (three_records v w x) 96 ≡ Ok (labelled_to (counts_of (label_at satellite (three_records v w x)) 3) 96)
  unfolding labelling labelled_telemetry telemetry_refused output_refused labelled_records no_counts trailer_size satellite three_records record_of bytes8 bytes4 checked checked_to7 refuse_if perigee_below in_range leading passes_at passes time_refused times_refused record_at sample_of
  labelled = ap (λ (c : Counts). Ok (labelled_to c 96)) (none_plus (counts_of (label_at satellite (three_records v w x)) 3))

  sides : ((label_at satellite (three_records v w x) 0).side ≡ training) × ((label_at satellite (three_records v w x) 1).side ≡ withheld) × ((label_at satellite (three_records v w x) 2).side ≡ test)
  unfolding satellite three_records record_of bytes8 bytes4 label_at label_for label_with record_at sample_of state_of revolution node_passages gain advance linear_term whole_turns part_turn quadratic_term drift side_of
  sides = (refl, refl, refl)

  -- the withheld and the test record
  others_free : (k : ℕ) → k < 2 → TrainingRecord satellite (record_at (three_records v w x) (suc k)) → ⊥
  unfolding satellite three_records record_of bytes8 bytes4 record_at sample_of revolution node_passages gain advance linear_term whole_turns part_turn quadratic_term drift side_of
  others_free zero b t = let z : ◌≡◌ {A = ℕ} 0 1 = t.side in omega arith
  others_free (suc zero) b t = let z : ◌≡◌ {A = ℕ} 2 1 = t.side in omega arith
  others_free (suc (suc k)) b t = omega arith

-- ---- the figures

-- the scale figures with the file that labelling a day makes
made_figures : (el : Elements) (day output : List ℕ) (counts : Counts) (size : ℕ) (f : Figures) → labelling el day (length output) ≡ Ok (labelled_to counts size)
    → scaling f (output_after el day output) size ≡ scaled_with f (training_in (first_labels (label_at el day) (records day)))
unfolding no_counts
made_figures el day output counts size f e =
    let passed = day_passed el day (length output) counts size e in
    let few : records day ≤ 1024 = omega (arith, passed.records.few) in
    rw (output_is el day output counts size e)
    (scaled_is (label_at el day) (records day) (label_keeps el 0 no_counts day (length output) counts size passed.records passed.elements) few [] (drop size output) size (omega (arith, file_length Bytes24 (label_at el day) (records day), end_is el day output counts size e)) f)

-- the training record alone counts
greatest_is : (v w x : ℕ) (watts : Float) → (label_at satellite (three_records v w x) 0).reading ≡ Valid watts → greatest_by (figures_for (three_records v w x)) ≡ Some watts
unfolding satellite three_records record_of bytes8 bytes4 label_at label_for label_with record_at sample_of flat_map first_labels nothing with_label next_file figures_allowed is_on state_of revolution node_passages gain advance linear_term whole_turns part_turn quadratic_term drift side_of
greatest_is v w x watts e =
    ap greatest_by (made_figures satellite (three_records v w x) (replicate 96 0) _ 96 nothing (labelled v w x)) ∙ ap (λ (r : Reading). foldl (keep Greatest) None (watts_in r)) e

-- ---- the days

alike_at : (k : ℕ) → k < 3 → AlikeRecords satellite (record_at first_day k) (record_at alike_day k)
unfolding three_records record_of bytes8 bytes4 record_at sample_of
alike_at zero b = record { same_time = refl; same_volts = λ t. refl; same_amperes = λ t. refl }
alike_at (suc zero) b = record { same_time = refl; same_volts = λ t. absurd (others_free five32 five32 five32 0 (omega arith) t); same_amperes = λ t. refl }
alike_at (suc (suc zero)) b = record { same_time = refl; same_volts = λ t. absurd (others_free five32 five32 five32 1 (omega arith) t); same_amperes = λ t. refl }
alike_at (suc (suc (suc k))) b = absurd (omega arith)

pub alike_days : AlikeExample
unfolding three_records record_of bytes8 bytes4 label_at label_for label_with record_at sample_of reading_of is_nan of_bits mul
alike_days =
    record {
      labelled = labelled five32 five32 five32;
      sides = sides five32 five32 five32;
      alike = record { same_length = refl; alike_records = alike_at };
      withheld_reading = (refl, refl);
      test_reading = (refl, refl);
      greatest = (greatest_is five32 five32 five32 ten refl, greatest_is five32 six32 nan32 ten refl);
    }

pub alike_packets : PacketsExample
unfolding opening_step satellite checked checked_to7 refuse_if perigee_below in_range three_records record_of bytes8 bytes4 all_bytes CutAlike
alike_packets =
    record {
      opened = refl;
      alike = alike_days.alike;
      cut_alike = (record { same_length = refl; same_room = refl }, (record { same_length = refl; same_room = refl }, tt));
    }

first_training : TrainingRecord satellite (record_at first_day 0)
unfolding satellite three_records record_of bytes8 bytes4 record_at sample_of checked_at checked checked_to7 refuse_if perigee_below in_range time_refused times_refused revolution node_passages gain advance linear_term whole_turns part_turn quadratic_term drift side_of
first_training = record { passed = refl; side = refl }

unlike_volts : (record_at first_day 0).volts ≡ (record_at unlike_day 0).volts → ⊥
unfolding three_records record_of bytes8 bytes4 record_at sample_of of_bits to_bits
unlike_volts e = let z : ◌≡◌ {A = ℕ} five32 six32 = ap (to_bits binary32) e in omega arith

abbrev bits_of : Option Float → ℕ
bits_of None = 0
bits_of (Some x) = to_bits binary32 x

unlike_watts : Some ten ≡ Some twelve → ⊥
unfolding of_bits to_bits
unlike_watts e = let z : ◌≡◌ {A = ℕ} 1_092_616_192 1_094_713_344 = ap bits_of e in omega arith

pub unlike_days : UnlikeExample
unfolding three_records record_of bytes8 bytes4 label_at label_for label_with record_at sample_of reading_of is_nan of_bits mul
unlike_days =
    record {
      same_length = refl;
      same_time = refl;
      same_amperes = refl;
      same_others = (refl, refl);
      not_alike = λ alike. unlike_volts ((alike.alike_records 0 (omega arith)).same_volts first_training);
      greatest = (greatest_is five32 five32 five32 ten refl, greatest_is six32 five32 five32 twelve refl);
      other_figures = λ e. unlike_watts (sym (greatest_is five32 five32 five32 ten refl) ∙ ap greatest_by e ∙ greatest_is six32 five32 five32 twelve refl);
    }
