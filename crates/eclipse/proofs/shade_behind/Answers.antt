-- `eclipse::shade_behind` meets its contract. Assumes nothing.
use mathlib.Core.Path.{◌≡◌}
use mathlib.Core.Bool.{Bool}
use Prim.Native.Nat.{◌^◌}
use lib.IntN.{ℤ, pos, ◌+ℤ◌, ◌-ℤ◌}
use mir.Syntax.{w64}
use mir.Val.{SFits, to_z, of_z}
use mir.Facts.{to_z-of_z}
use Rattle.integer.specs.Bound.{Within}
use Rattle.integer.proofs.Bounds.{sfits_within}
use Rattle.integer.proofs.TwosComplement.{read_within}
use Rattle.eclipse.specs.Shade.{spread, umbra_radius, penumbra_radius, below_square, shade_behind}
use Rattle.eclipse.specs.Contract.{RadiusBound, SpreadAt}
use Rattle.eclipse.proofs.Bounds.{umbra_within, penumbra_within}
use Rattle.eclipse.proofs.shade_behind.Goals as goal

-- a radius from its spread, with the numbers as they are read back
module _ (radius : ℤ → ℤ) (within : (s : ℤ) → Within (2 ^ 24) s → RadiusBound (radius s)) where
  fits : {s : ℤ} → Within (2 ^ 24) s → SFits w64 (radius (to_z w64 (of_z w64 s)))
  fits h = rw (read_within h tt) (sfits_within (within _ h) tt)

  told : {b : Bool} {d k s side : ℤ} → SFits w64 d → SFits w64 side → SpreadAt (to_z w64 (of_z w64 d)) k s
      → b ≡ below_square (to_z w64 (of_z w64 side)) (to_z w64 (of_z w64 (radius (to_z w64 (of_z w64 s))))) → b ≡ below_square side (radius (spread d k))
  told f g h e = rw (to_z-of_z g, read_within h.small tt, read_within (within _ h.small) tt, h.is, to_z-of_z f) at e

abbrev umbra : ℤ → ℤ
umbra s = pos 6_378_000 -ℤ s

abbrev penumbra : ℤ → ℤ
penumbra s = pos 6_378_000 +ℤ s

pub returns-then-below_square : goal.returns-then-below_square
unfolding shade_behind umbra_radius
returns-then-below_square c =
    let d = told umbra umbra_within c.ranges.depth c.ranges.squared_side c.spread-umbra.ensures c.below_square.ensures in
    rw (← d, c.if-below_square.true)

pub returns-then-below_square-2 : goal.returns-then-below_square-2
unfolding shade_behind umbra_radius penumbra_radius
returns-then-below_square-2 c =
    let d = told umbra umbra_within c.ranges.depth c.ranges.squared_side c.spread-umbra.ensures c.below_square.ensures in
    let p = told penumbra penumbra_within c.ranges.depth c.ranges.squared_side c.spread-penumbra.ensures c.below_square-2.ensures in
    rw (← d, c.if-below_square.false, ← p, c.if-below_square-2.true)

pub returns : goal.returns
unfolding shade_behind umbra_radius penumbra_radius
returns c =
    let d = told umbra umbra_within c.ranges.depth c.ranges.squared_side c.spread-umbra.ensures c.below_square.ensures in
    let p = told penumbra penumbra_within c.ranges.depth c.ranges.squared_side c.spread-penumbra.ensures c.below_square-2.ensures in
    rw (← d, c.if-below_square.false, ← p, c.if-below_square-2.false)
