-- The theorems are not empty, and what alike asks is needed: two days that are alike and differ, and a third that differs in a training
-- record and has other figures. The checker computes times, sides and readings; the figures follow by the law of files in buffers. Assumes
-- nothing.
use Rattle.std.specs.Prelude.{◌≡◌, ℕ, ◌^◌, List, [], ◌∷◌, ◌++◌, pos, Float, length, take, drop, replicate, Err, None, Ok, Option, Result, Some}
use Rattle.std.specs.Float.{binary32}
use Rattle.std.specs.Float.Ieee.{of_bits}
use Rattle.endian.specs.LittleEndian.{bytes4, bytes8}
use Rattle.elements.specs.declared.Elements.{Elements}
use Rattle.telemetry.specs.declared.Reading.TheVariants.{Missing, Valid}
use Rattle.label.specs.Sides.{withheld, training, test}
use Rattle.trailer.specs.Counts.{counts_of}
use Rattle.labelling.specs.Records.{record_at, label_at, labelled_to}
use Rattle.labelling.specs.Day.{labelling, output_after}
use Rattle.scale.specs.Figures.{nothing}
use Rattle.scale.specs.Step.{scaling}
use Rattle.packets.specs.Day.{opening_step}
use Rattle.packets.specs.Cutting.{Given, all_bytes}
use Rattle.no_leak.specs.Alike.{AlikeDays}
use Rattle.no_leak.specs.Packets.{CutAlike}
use Rattle.refusal.specs.declared.RefusedAt.{RefusedAt}
use Rattle.scale.specs.declared.Figures.{Figures}

-- ---- the days

-- 15 revolutions a day, in a circle, and revolution 63 at the epoch
unfoldable pub satellite : Elements
satellite =
    record {
      eccentricity = 0;
      semi_major_axis = 6_945_000;
      inclination = 2 ^ 30;
      node = 0;
      argument_of_perigee = 0;
      mean_anomaly = 0;
      mean_motion = 1_500_000_000;
      node_rate = pos 0;
      perigee_rate = pos 0;
      epoch_revolution = 63;
      epoch = pos 0;
      half_mean_motion_derivative = pos 0;
    }

-- the bits of 2, 5 and 6 in binary32, and those of a NaN
abbrev pub two32 : ℕ
two32 = 1_073_741_824

abbrev pub five32 : ℕ
five32 = 1_084_227_584

abbrev pub six32 : ℕ
six32 = 1_086_324_736

abbrev pub nan32 : ℕ
nan32 = 2_143_289_344

-- 10 and 12, by their bits
abbrev pub ten : Float
ten = of_bits binary32 1_092_616_192

abbrev pub twelve : Float
twelve = of_bits binary32 1_094_713_344

-- a record of 2 amperes
unfoldable pub record_of : ℕ → ℕ → List ℕ
record_of time volts = bytes8 time ++ (bytes4 volts ++ bytes4 two32)

-- three records, one in each of the revolutions 63, 64 and 65, by their volts
unfoldable pub three_records : ℕ → ℕ → ℕ → List ℕ
three_records v w x = record_of 0 v ++ (record_of 6_000 w ++ record_of 12_000 x)

abbrev pub first_day : List ℕ
first_day = three_records five32 five32 five32

abbrev pub alike_day : List ℕ
alike_day = three_records five32 six32 nan32

abbrev pub unlike_day : List ℕ
unlike_day = three_records six32 five32 five32

-- ---- the figures with the file of a day

abbrev pub figures_for : List ℕ → Result Figures RefusedAt
figures_for day = scaling nothing (output_after satellite day (replicate 96 0)) 96

-- the greatest watts among them
abbrev pub greatest_by : Result Figures RefusedAt → Option Float
greatest_by (Ok f) = f.greatest
greatest_by (Err refused) = None

-- ---- what the days show

-- The first day is labelled, with a label on each side. The second is alike to it, and differs in the volts, and so in the labels, of the
-- withheld record and of the test record; the figures do not have the 12 watts of the withheld one (law `alike_days`).
pub record AlikeExample : Type 0 where
  pub labelled : labelling satellite first_day 96 ≡ Ok (labelled_to (counts_of (label_at satellite first_day) 3) 96)
  pub sides : ((label_at satellite first_day 0).side ≡ training) × ((label_at satellite first_day 1).side ≡ withheld) × ((label_at satellite first_day 2).side ≡ test)
  pub alike : AlikeDays satellite first_day alike_day
  pub withheld_reading : ((label_at satellite first_day 1).reading ≡ Valid ten) × ((label_at satellite alike_day 1).reading ≡ Valid twelve)
  pub test_reading : ((label_at satellite first_day 2).reading ≡ Valid ten) × ((label_at satellite alike_day 2).reading ≡ Missing)
  pub greatest : (greatest_by (figures_for first_day) ≡ Some ten) × (greatest_by (figures_for alike_day) ≡ Some ten)

-- a day in two packets, cut within its second record
abbrev pub two_packets : List ℕ → List Given
two_packets day = record { packet = take 20 day; output = replicate 72 0 } ∷ record { packet = drop 20 day; output = replicate 72 0 } ∷ []

-- So cut, the first two days are alike and cut alike, and their elements open a day (law `alike_packets`).
pub record PacketsExample : Type 0 where
  pub opened : (opening_step satellite).outcome ≡ Ok tt
  pub alike : AlikeDays satellite (all_bytes (two_packets first_day)) (all_bytes (two_packets alike_day))
  pub cut_alike : CutAlike (two_packets first_day) (two_packets alike_day)

-- The third day differs from the first in the volts of the training record alone; it is not alike, and has other figures (law `unlike_days`).
pub record UnlikeExample : Type 0 where
  pub same_length : length first_day ≡ length unlike_day
  pub same_time : (record_at first_day 0).time ≡ (record_at unlike_day 0).time
  pub same_amperes : (record_at first_day 0).amperes ≡ (record_at unlike_day 0).amperes
  pub same_others : (record_at first_day 1 ≡ record_at unlike_day 1) × (record_at first_day 2 ≡ record_at unlike_day 2)
  pub not_alike : AlikeDays satellite first_day unlike_day → ⊥
  pub greatest : (greatest_by (figures_for first_day) ≡ Some ten) × (greatest_by (figures_for unlike_day) ≡ Some twelve)
  pub other_figures : figures_for first_day ≡ figures_for unlike_day → ⊥
