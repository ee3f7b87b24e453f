-- A published set: the International Space Station on 2008 September 20, as the usual example of the format has it. The semi-major axis and the
-- drift rates are chosen beside it. Assumes nothing.
use Rattle.std.specs.Prelude.{ℕ, List, [], ◌∷◌, ℤ, pos, neg_ℤ}
use Rattle.elements.specs.declared.Elements.{Elements}

-- 1 25544U 98067A   08264.51782528 -.00002182  00000-0 -11606-4 0  2927
abbrev pub station_first : List ℕ
station_first = 49 ∷ 32 ∷ 50 ∷ 53 ∷ 53 ∷ 52 ∷ 52 ∷ 85 ∷ 32 ∷ 57 ∷ 56 ∷ 48 ∷ 54 ∷ 55 ∷ 65 ∷ 32 ∷ 32 ∷ 32 ∷ 48 ∷ 56 ∷ 50 ∷ 54 ∷ 52 ∷ 46 ∷ 53 ∷ 49 ∷ 55 ∷ 56 ∷ 50 ∷ 53 ∷ 50 ∷ 56 ∷ 32 ∷ 45 ∷ 46 ∷ 48 ∷ 48 ∷ 48 ∷ 48 ∷ 50 ∷ 49 ∷ 56 ∷ 50 ∷ 32 ∷ 32 ∷ 48 ∷ 48 ∷ 48 ∷ 48 ∷ 48 ∷ 45 ∷ 48 ∷ 32 ∷ 45 ∷ 49 ∷ 49 ∷ 54 ∷ 48 ∷ 54 ∷ 45 ∷ 52 ∷ 32 ∷ 48 ∷ 32 ∷ 32 ∷ 50 ∷ 57 ∷ 50 ∷ 55 ∷ []

-- 2 25544  51.6416 247.4627 0006703 130.5360 325.0288 15.72125391563537
abbrev pub station_second : List ℕ
station_second = 50 ∷ 32 ∷ 50 ∷ 53 ∷ 53 ∷ 52 ∷ 52 ∷ 32 ∷ 32 ∷ 53 ∷ 49 ∷ 46 ∷ 54 ∷ 52 ∷ 49 ∷ 54 ∷ 32 ∷ 50 ∷ 52 ∷ 55 ∷ 46 ∷ 52 ∷ 54 ∷ 50 ∷ 55 ∷ 32 ∷ 48 ∷ 48 ∷ 48 ∷ 54 ∷ 55 ∷ 48 ∷ 51 ∷ 32 ∷ 49 ∷ 51 ∷ 48 ∷ 46 ∷ 53 ∷ 51 ∷ 54 ∷ 48 ∷ 32 ∷ 51 ∷ 50 ∷ 53 ∷ 46 ∷ 48 ∷ 50 ∷ 56 ∷ 56 ∷ 32 ∷ 49 ∷ 53 ∷ 46 ∷ 55 ∷ 50 ∷ 49 ∷ 50 ∷ 53 ∷ 51 ∷ 57 ∷ 49 ∷ 53 ∷ 54 ∷ 51 ∷ 53 ∷ 51 ∷ 55 ∷ []

-- 6,731,000 m, -4.99 and 3.73 degrees a day
abbrev pub station_axis : ℕ
station_axis = 6_731_000

abbrev pub station_node_rate : ℤ
station_node_rate = neg_ℤ (pos 49_900)

abbrev pub station_perigee_rate : ℤ
station_perigee_rate = pos 37_300

-- the epoch is 12:25:40.104192, of which 0.104192 s are cut: the mean anomaly goes back by 81,426
abbrev pub station_elements : Elements
station_elements =
    record {
      eccentricity = 6_703;
      semi_major_axis = station_axis;
      inclination = 616_108_286;
      node = 2_952_345_009;
      argument_of_perigee = 1_557_355_141;
      mean_anomaly = 3_877_663_202;
      mean_motion = 1_572_125_391;
      node_rate = station_node_rate;
      perigee_rate = station_perigee_rate;
      epoch_revolution = 56_353;
      epoch = pos 590_847_940;
      half_mean_motion_derivative = neg_ℤ (pos 2_182);
    }
