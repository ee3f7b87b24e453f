-- Distances in the plane of the orbit: their bounds, and the radius between perigee and apogee. Assumes nothing.
use mathlib.Core.Path.{◌≡◌, ◌∙◌, ap}
use Prim.Native.Nat.{ℕ, suc, ◌+◌, ◌*◌, ◌-◌, ◌/◌, ◌^◌, ◌≤◌, ◌<◌}
use native.Mathlib.Nat.{le_refl, mul-le-mul_left}
use native.Mathlib.Omega.{arith}
use lib.Dec.{lit≤}
use lib.IntN.{ℤ, pos, negsuc, ◌-ℤ◌, ◌*ℤ◌}
use lib.Signed.{quot_z, mag}
use mir.Syntax.{w64}
use mir.Val.{to_z, of_z}
use Rattle.integer.specs.Bound.{Within}
use Rattle.integer.specs.Root.{root}
use Rattle.integer.proofs.Bounds.{within_pos, within_sub, within_mul, within_quot, within_more}
use Rattle.integer.proofs.TwosComplement.{read_back}
use Rattle.integer.proofs.Parts.{signed, parts_sub}
use Rattle.integer.proofs.Ring.{ring}
use Rattle.integer.proofs.Root.{root_is, square_below}
use Rattle.position.specs.Box.{PlaneBox}
use Rattle.orbit.specs.Ellipse.{e30, minor_axis, in_plane_x, in_plane_y, radius, Between}
use Rattle.orbit.specs.Placement.{plane_of}

pub e30_le : (e : ℕ) → e ≤ 9_000_000 → e30 e ≤ 966_367_641
unfolding e30
e30_le e h = omega arith

-- what `scaled` gives of a product that is z, as the machine holds it
pub scaled_is : {x z : ℤ} (r : ℤ) → mag r < 2 ^ 63 → r ≡ quot_z x (pos (2 ^ 30)) → x ≡ z → to_z w64 (of_z w64 r) ≡ quot_z z (pos (2 ^ 30))
scaled_is r held is product = read_back r held ∙ is ∙ ap (λ (z : ℤ). quot_z z (pos (2 ^ 30))) product

-- the minor axis is not above the major
pub minor_le : (e : ℕ) → minor_axis e ≤ 2 ^ 30
unfolding minor_axis
minor_le e =
    let n : ℕ = 2 ^ 60 - e30 e * e30 e in
    square_below n (2 ^ 30) (root n) (omega arith) (root_is n).low

-- a number of at most 1 takes no more than k from k
pub part_within : (k : ℕ) (z : ℤ) → Within (2 ^ 30) z → Within k (quot_z (pos k *ℤ z) (pos (2 ^ 30)))
part_within k z h =
    within_more (within_quot (2 ^ 30) (within_mul (within_pos {a = k} (le_refl k)) h)) (omega arith)

module _ (a e : ℕ) (cosine : ℤ) (ha : a ≤ 100_000_000) (he : e ≤ 9_000_000) (hc : Within (2 ^ 30) cosine) where
  pub offset_within : Within (2 ^ 30 + 966_367_641) (cosine -ℤ pos (e30 e))
  offset_within = within_sub hc (within_pos (e30_le e he))

  pub x_product_within : Within (100_000_000 * (2 ^ 30 + 966_367_641)) (pos a *ℤ (cosine -ℤ pos (e30 e)))
  x_product_within = within_mul (within_pos ha) offset_within

  x_within : Within 190_000_000 (in_plane_x a e cosine)
  unfolding in_plane_x
  x_within = within_more (within_quot (2 ^ 30) x_product_within) (lit≤ tt)

  -- the part of the radius that the cosine takes
  pub term_within : Within 966_367_641 (quot_z (pos (e30 e) *ℤ cosine) (pos (2 ^ 30)))
  term_within = within_more (part_within (e30 e) cosine hc) (e30_le e he)

  pub factor_within : Within (2 ^ 30 + 966_367_641) (pos (2 ^ 30) -ℤ quot_z (pos (e30 e) *ℤ cosine) (pos (2 ^ 30)))
  factor_within = within_sub (within_pos {a = 2 ^ 30} (lit≤ tt)) term_within

module _ (a b : ℕ) (sine : ℤ) (ha : a ≤ 100_000_000) (hb : b ≤ 2 ^ 30) (hs : Within (2 ^ 30) sine) where
  pub height_within : Within (2 ^ 30) (quot_z (pos b *ℤ sine) (pos (2 ^ 30)))
  height_within = within_more (part_within b sine hs) hb

  y_within : Within 100_000_000 (in_plane_y a b sine)
  unfolding in_plane_y
  y_within = within_more (part_within a _ height_within) ha

pub plane_box : (a e b : ℕ) (cosine sine : ℤ) → a ≤ 100_000_000 → e ≤ 9_000_000 → b ≤ 2 ^ 30 → Within (2 ^ 30) cosine → Within (2 ^ 30) sine
    → PlaneBox (plane_of a e b cosine sine)
unfolding plane_of
plane_box a e b cosine sine ha he hb hc hs =
    record { x_within = x_within a e cosine ha he hc; y_within = y_within a b sine ha hb hs; z_within = within_pos (lit≤ tt) }

-- ---- the radius
-- b less a number within k is a natural number from b - k to b + k
record Factor (b k : ℕ) (z : ℤ) : Type 0 where
  f : ℕ
  is : pos b -ℤ z ≡ pos f
  low : b ≤ f + k
  high : f ≤ b + k

factor : (b k : ℕ) (z : ℤ) → Within k z → k ≤ b → Factor b k z
factor b k (pos n) h l =
    let w = h.within in
    record { f = b - n; is = omega (signed, parts_sub (pos b) (pos n)); low = omega arith; high = omega arith }
factor b k (negsuc n) h l =
    let w = h.within in
    record { f = b + suc n; is = omega (signed, parts_sub (pos b) (negsuc n)); low = omega arith; high = omega arith }

-- a factor of a from 2^30 - e30 to 2^30 + e30 gives a radius between the two distances
between : (a e f : ℕ) → e ≤ 9_000_000 → 2 ^ 30 ≤ f + e30 e → f ≤ 2 ^ 30 + e30 e → Between a e (pos (a * f / 2 ^ 30))
unfolding e30
between a e f he lo hi =
    let low : 1073741824 * (10000000 - e) ≤ f * 10000000 = omega arith in
    let high : f * 10000000 ≤ 1073741824 * (10000000 + e) = omega arith in
    record {
      perigee = omega (signed, simp ring at (mul-le-mul_left a low));
      apogee = omega (signed, simp ring at (mul-le-mul_left a high));
    }

pub radius_between : (a e : ℕ) (cosine : ℤ) → e ≤ 9_000_000 → Within (2 ^ 30) cosine → Between a e (radius a e cosine)
unfolding radius
radius_between a e cosine he hc =
    let t = part_within (e30 e) cosine hc in
    let f = factor (2 ^ 30) (e30 e) (quot_z (pos (e30 e) *ℤ cosine) (pos (2 ^ 30))) t (omega (arith, e30_le e he)) in
    rw f.is (between a e f.f he f.low f.high)
