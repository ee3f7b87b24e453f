-- The whole numbers x and z of an arc against the exact ones, N / D and its square. Assumes nothing.
use Prim.Native.Nat.{ℕ, zero, ◌+◌, ◌*◌, ◌/◌, ◌^◌, ◌≤◌, ◌<◌}
use native.Mathlib.Nat.{le_trans, mul-le-mul, mul-le-mul_left, mul-le-mul_right, le_of_mul-le-mul_right, mul-pos, one-mul}
use native.Mathlib.Omega.{arith}
use lib.Dec.{leb→le}
use Rattle.integer.proofs.Ring.{ring}
use Rattle.trig.specs.Sine.{radians, square}
use Rattle.trig.specs.ExactSine.{D, pi_low, pi_high}
use Rattle.trig.proofs.Steps.{Squared}

-- x is r·P / b cut down, against r·pi / D
x_low : (b D r pi P x : ℕ) → zero < b → x * b ≤ r * P → P * D ≤ pi * b * b → x * D ≤ r * pi * b
x_low b D r pi P x hb h k =
    le_of_mul-le-mul_right {k = b}
    (simp ring (omega (arith, simp ring at (mul-le-mul_left D h), simp ring at (mul-le-mul_left r k))))
    hb

x_high : (K g b D r pi P x : ℕ) → zero < b → r ≤ b → r * P ≤ x * b + b → K * (pi * b * b) ≤ (K * P + g) * D → K * (r * pi * b) ≤ (K * x + (K + g)) * D
x_high K g b D r pi P x hb hr h k =
    le_of_mul-le-mul_right {k = b}
    (simp ring (omega (arith, simp ring at (mul-le-mul_left (K * D) h), simp ring at (mul-le-mul_left r k), simp ring at (mul-le-mul_left (g * D) hr))))
    hb

-- z is x·x / b cut down, against N·N / (D·D)
z_low : (b D N x z : ℕ) → zero < b → z * b ≤ x * x → x * D ≤ N * b → z * (D * D) ≤ N * N * b
z_low b D N x z hb h x1 =
    le_of_mul-le-mul_right {k = b}
    (simp ring (omega (arith, simp ring at (mul-le-mul_left (D * D) h), simp ring at (mul-le-mul x1 x1))))
    hb

z_high : (K b D N x z g δ : ℕ) → zero < b → zero < K → x * x ≤ z * b + b → K * (N * b) ≤ (K * x + g) * D → K * g * x + K * g * x + g * g ≤ K * K * (δ * b) → N * N * b ≤ (z + (δ + 1)) * (D * D)
z_high K b D N x z g δ hb hK h x2 num =
    le_of_mul-le-mul_right {k = K * K * b}
    (simp (ring, one-mul) (omega (arith, simp ring at (mul-le-mul_left (K * K * D * D) h), simp ring at (mul-le-mul x2 x2), simp ring at (mul-le-mul_left (D * D) num))))
    (mul-pos (mul-pos hK hK) hb)

square_ratio : (D n a b : ℕ) → a * n ≤ b * D → a * a * (n * n) ≤ b * b * (D * D)
square_ratio D n a b h = simp ring (simp ring at (mul-le-mul h h))

-- an arc r and its exact measure n / D
pub record Reduced (D r n : ℕ) : Type 0 where
  pub low : radians r * D ≤ n * 2 ^ 30
  pub high : 100 * (n * 2 ^ 30) ≤ (100 * radians r + 107) * D
  pub quarter : 10000 * n ≤ 15708 * D
  pub squared : Squared (D * D) (n * n) (square (radians r))

reduced : (D pi r : ℕ) → r ≤ 2 ^ 30 → 1_686_629_713 * D ≤ pi * 2 ^ 30 * 2 ^ 30 → 100 * (pi * 2 ^ 30 * 2 ^ 30) ≤ (100 * 1_686_629_713 + 7) * D → 10000 * (2 ^ 30 * pi) ≤ 15708 * D → Reduced D r (r * pi)
unfolding radians square
reduced D pi r hr k1 k2 k3 =
    let b : ℕ = 2 ^ 30 in
    let n : ℕ = r * pi in
    let x : ℕ = r * 1_686_629_713 / b in
    let hx : x ≤ 1_686_629_713 = omega arith in
    let z : ℕ = x * x / b in
    let lo : z * b ≤ x * x = omega arith in
    let hi : x * x ≤ z * b + b = omega arith in
    let x1 : x * D ≤ n * b = x_low b D r pi 1_686_629_713 x (omega arith) (omega arith) k1 in
    let x2 : 100 * (n * b) ≤ (100 * x + 107) * D = x_high 100 7 b D r pi 1_686_629_713 x (omega arith) hr (omega arith) k2 in
    let hn : 10000 * n ≤ 15708 * D = le_trans (mul-le-mul_left 10000 (mul-le-mul_right pi hr)) k3 in
    record {
      low = x1;
      high = x2;
      quarter = hn;
      squared = record {
        small = omega (arith, mul-le-mul hx hx);
        low = z_low b D n x z (omega arith) lo x1;
        high = z_high 100 b D n x z 107 4 (omega arith) (omega arith) hi x2 (omega arith);
        quarter = let h = square_ratio D n 10000 15708 hn in omega arith;
      };
    }

pub reduced_low : (r : ℕ) → r ≤ 2 ^ 30 → Reduced D r (r * pi_low)
reduced_low r hr = reduced D pi_low r hr (leb→le _ _ tt) (leb→le _ _ tt) (leb→le _ _ tt)

pub reduced_high : (r : ℕ) → r ≤ 2 ^ 30 → Reduced D r (r * pi_high)
reduced_high r hr = reduced D pi_high r hr (leb→le _ _ tt) (leb→le _ _ tt) (leb→le _ _ tt)
