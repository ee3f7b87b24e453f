-- Bounds of the numbers of the shade rule, and what refusal 14 leaves. Assumes nothing.
use borrow.Author.Tests.{ltb-false}
use mathlib.Core.Path.{◌≡◌}
use mathlib.Core.Bool.{false}
use Prim.Native.Nat.{ℕ, ◌*◌, ◌^◌}
use lib.Dec.{ltb, lit≤}
use lib.IntN.{ℤ, pos, neg_ℤ, nat_abs, ◌+ℤ◌, ◌-ℤ◌, ◌*ℤ◌}
use lib.Signed.{quot_z}
use Rattle.integer.specs.Bound.{Within}
use Rattle.integer.proofs.Bounds.{within_neg, within_add, within_sub, within_mul, within_quot, within_pos, within_more}
use Rattle.integer.proofs.Tests.{or_false}
use Rattle.position.specs.Box.{CelestialBox}
use Rattle.position.specs.declared.Position.{Position}
use Rattle.sun.specs.Contract.{WithinOne}
use Rattle.sun.specs.declared.Direction.{Direction}
use Rattle.eclipse.specs.Dot.{dot_of}
use Rattle.eclipse.specs.Shade.{projection, any_beyond}
use Rattle.eclipse.specs.Contract.{DepthBound, RadiusBound}

-- the numbers on the way to a scalar product
pub record DotSizes (x y z : ℤ) (d : Direction) : Type 0 where
  pub first : Within (2 ^ 60) (x *ℤ d.x)
  pub second : Within (2 ^ 60) (y *ℤ d.y)
  pub third : Within (2 ^ 60) (z *ℤ d.z)
  pub two : Within (2 ^ 61) (x *ℤ d.x +ℤ y *ℤ d.y)
  pub three : Within (2 ^ 62) (x *ℤ d.x +ℤ y *ℤ d.y +ℤ z *ℤ d.z)
  pub whole : Within (2 ^ 32) (quot_z (x *ℤ d.x +ℤ y *ℤ d.y +ℤ z *ℤ d.z) (pos (2 ^ 30)))

pub dot_sizes : {x y z : ℤ} {d : Direction} → Within (2 ^ 30) x × Within (2 ^ 30) y × Within (2 ^ 30) z × WithinOne d
    → DotSizes x y z d
dot_sizes (h, k, l, w) =
    let a = within_mul h w.x_within in
    let b = within_mul k w.y_within in
    let c = within_mul l w.z_within in
    let s = within_more (within_add (within_add a b) c) (lit≤ tt) in
    record { first = a; second = b; third = c; two = within_add a b; three = s; whole = within_quot (2 ^ 30) s }

-- the numbers on the way to the square of the side
pub record SideSizes (q : Position) (p : ℤ) : Type 0 where
  pub xx : Within (2 ^ 60) (q.x *ℤ q.x)
  pub yy : Within (2 ^ 60) (q.y *ℤ q.y)
  pub zz : Within (2 ^ 60) (q.z *ℤ q.z)
  pub pp : Within (2 ^ 62) (p *ℤ p)
  pub two : Within (2 ^ 61) (q.x *ℤ q.x +ℤ q.y *ℤ q.y)
  pub three : Within (3 * 2 ^ 60) (q.x *ℤ q.x +ℤ q.y *ℤ q.y +ℤ q.z *ℤ q.z)
  pub whole : Within (7 * 2 ^ 60) (q.x *ℤ q.x +ℤ q.y *ℤ q.y +ℤ q.z *ℤ q.z -ℤ p *ℤ p)

pub side_sizes : {q : Position} {p : ℤ} → CelestialBox q × DepthBound p → SideSizes q p
side_sizes (b, h) =
    let x = within_more (within_mul b.x_within b.x_within) (lit≤ tt) in
    let y = within_more (within_mul b.y_within b.y_within) (lit≤ tt) in
    let z = within_more (within_mul b.z_within b.z_within) (lit≤ tt) in
    let p = within_mul h h in
    let s = within_add (within_add x y) z in
    record { xx = x; yy = y; zz = z; pp = p; two = within_add x y; three = s; whole = within_sub s p }

-- the numbers on the way to a spread
pub record SpreadSizes (d k : ℤ) : Type 0 where
  pub product : Within (2 ^ 61) (d *ℤ k)
  pub whole : Within (2 ^ 24) (quot_z (d *ℤ k) (pos 149_600_000_000))

pub spread_sizes : {d k : ℤ} → DepthBound d × Within (2 ^ 30) k → SpreadSizes d k
spread_sizes (g, h) =
    let p = within_mul g h in
    record { product = p; whole = within_more (within_quot 149_600_000_000 p) (lit≤ tt) }

-- a shadow's radius from its spread
pub penumbra_within : (s : ℤ) → Within (2 ^ 24) s → RadiusBound (pos 6_378_000 +ℤ s)
penumbra_within s h = within_more (within_add (within_pos {a = 6_378_000} (lit≤ tt)) h) (lit≤ tt)

pub umbra_within : (s : ℤ) → Within (2 ^ 24) s → RadiusBound (pos 6_378_000 -ℤ s)
umbra_within s h = penumbra_within (neg_ℤ s) (within_neg h)

pub projection_within : {q : Position} {sun : Direction} → CelestialBox q → WithinOne sun → DepthBound (projection q sun)
unfolding dot_of
projection_within b w =
    let x = within_mul b.x_within w.x_within in
    let y = within_mul b.y_within w.y_within in
    let z = within_mul b.z_within w.z_within in
    within_more (within_quot (2 ^ 30) (within_add (within_add x y) z)) (lit≤ tt)

-- three components of which none is beyond the bound
none_beyond : {bound : ℕ} (x y z : ℤ) → any_beyond bound x y z ≡ false
    → Within bound x × Within bound y × Within bound z
unfolding any_beyond
none_beyond {bound} x y z e =
    let f = or_false (ltb bound (nat_abs x)) _ e in
    let g = or_false (ltb bound (nat_abs y)) _ f.1 in (
      record { within = ltb-false bound (nat_abs x) f.0 },
      record { within = ltb-false bound (nat_abs y) g.0 },
      record { within = ltb-false bound (nat_abs z) g.1 },
    )

pub position_in_box : (q : Position) → any_beyond 200_000_000 q.x q.y q.z ≡ false → CelestialBox q
position_in_box q e =
    let w = none_beyond q.x q.y q.z e in
    record {
      x_within = within_more w.0 (lit≤ tt);
      y_within = within_more w.1 (lit≤ tt);
      z_within = within_more w.2 (lit≤ tt);
    }

pub sun_within_one : (d : Direction) → any_beyond (2 ^ 30) d.x d.y d.z ≡ false → WithinOne d
sun_within_one d e =
    let w = none_beyond d.x d.y d.z e in
    record { x_within = w.0; y_within = w.1; z_within = w.2 }
