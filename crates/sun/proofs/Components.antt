-- A direction and a Sun from their fields. Assumes nothing.
use Rattle.std.proofs.Common.{◌≡◌, ℕ, ℤ}
use Rattle.sun.specs.Contract.{DirectionAt, SunAt}
use Rattle.sun.specs.Sun.{mean_anomaly, mean_longitude, true_longitude, hour_angle, direction_of, sun_of}
use Rattle.sun.specs.declared.Direction.{Direction}

pub same_direction : {a b c x y z : ℤ} → a ≡ x → b ≡ y → c ≡ z
    → ◌≡◌ {A = Direction} (record { x = a; y = b; z = c }) (record { x = x; y = y; z = z })
same_direction p q r = λ i. record { x = p i; y = q i; z = r i }

module _ {t : ℤ} {ma ml tl gh : ℕ} {d : Direction} where
  pub sun_at : ma ≡ mean_anomaly t → ml ≡ mean_longitude t → tl ≡ true_longitude ml ma → gh ≡ hour_angle ml t → DirectionAt tl d
      → SunAt t
      (record { mean_anomaly = ma; mean_longitude = ml; true_longitude = tl; greenwich_hour_angle = gh; direction = d })
  unfolding sun_of
  sun_at a l e g h =
      let long : tl ≡ true_longitude (mean_longitude t) (mean_anomaly t) = cc in
      let hour : gh ≡ hour_angle (mean_longitude t) t = cc in
      let toward : d ≡ direction_of (true_longitude (mean_longitude t) (mean_anomaly t)) = cc h.is in
      record {
        is = λ i.
            record {
              mean_anomaly = a i;
              mean_longitude = l i;
              true_longitude = long i;
              greenwich_hour_angle = hour i;
              direction = toward i;
            };
        small = h.small;
      }
