-- The Sun: document 01, "Sun and shade". Sums of angles wrap at a turn, 2^32. Assumes nothing.
use Rattle.std.specs.Prelude.{ℕ, ◌+◌, ◌*◌, ◌/◌, ◌%◌, ◌^◌, cond, ℤ, pos, ◌+ℤ◌, ◌-ℤ◌, ◌*ℤ◌, int_div, Err, Ok, Result}
use Rattle.integer.specs.Division.{mod_z}
use Rattle.refusal.specs.declared.Refusal.TheVariants.{Time}
use Rattle.time.specs.Range.{in_range}
use Rattle.trig.specs.Angle.{angle_of}
use Rattle.trig.specs.Sine.{S, C}
use Rattle.sun.specs.declared.Direction.{Direction}
use Rattle.sun.specs.declared.Sun.{Sun}
use Rattle.refusal.specs.declared.Refusal.{Refusal}

-- the part turn of n / d: the remainder, which is never negative, times 2^32 over the divisor, down
unfoldable pub part_turn : ℤ → ℕ → ℕ
part_turn n d = mod_z n d * 2 ^ 32 / d

-- MA = angle(3,566,349) + the part turn of 3125·t / 98,620,103,151
unfoldable pub mean_anomaly : ℤ → ℕ
mean_anomaly t = (angle_of 3_566_349 + part_turn (pos 3125 *ℤ t) 98_620_103_151) % 2 ^ 32

-- ML = angle(2,794,033) + the part turn of 3125·t / 98,615,393,676
unfoldable pub mean_longitude : ℤ → ℕ
mean_longitude t = (angle_of 2_794_033 + part_turn (pos 3125 *ℤ t) 98_615_393_676) % 2 ^ 32

-- a·s / 2^30, cut toward zero
abbrev pub scaled : ℤ → ℤ → ℤ
scaled a s = int_div (a *ℤ s) (pos (2 ^ 30))

-- the equation of the centre: angle(19,151)·S(MA)/2^30 + angle(200)·S(2·MA)/2^30
unfoldable pub centre_of : ℕ → ℤ
centre_of ma = scaled (pos (angle_of 19_151)) (S ma) +ℤ scaled (pos (angle_of 200)) (S ((ma + ma) % 2 ^ 32))

-- TL = ML + angle(19,151)·S(MA)/2^30 + angle(200)·S(2·MA)/2^30
unfoldable pub true_longitude : ℕ → ℕ → ℕ
true_longitude ml ma = mod_z (pos ml +ℤ centre_of ma) (2 ^ 32)

-- GHAA = ML − half a turn + (t mod 86,400)·2^32/86,400 down: the last is the part turn of t / 86,400
unfoldable pub hour_angle : ℕ → ℤ → ℕ
hour_angle ml t = mod_z (pos ml -ℤ pos (2 ^ 31) +ℤ pos (part_turn t 86_400)) (2 ^ 32)

-- Sun = C(TL), S(TL)·C(ob)/2^30, S(TL)·S(ob)/2^30, with ob = angle(234,406)
unfoldable pub direction_of : ℕ → Direction
direction_of tl =
    let ob = angle_of 234_406 in
    record { x = C tl; y = scaled (S tl) (C ob); z = scaled (S tl) (S ob) }

unfoldable pub sun_of : ℤ → Sun
sun_of t =
    let ma = mean_anomaly t in
    let ml = mean_longitude t in
    let tl = true_longitude ml ma in
    record {
      mean_anomaly = ma;
      mean_longitude = ml;
      true_longitude = tl;
      greenwich_hour_angle = hour_angle ml t;
      direction = direction_of tl;
    }

-- the Sun alone gives 8, for its time's range
unfoldable pub sun_answer : ℤ → Result Sun Refusal
sun_answer t = cond (in_range t) (Ok (sun_of t)) (Err Time)
