-- `eclipse::shade_at` meets its contract. Assumes nothing.
use mathlib.Core.Path.{◌≡◌, ◌∙◌}
use lib.Dec.{lit≤}
use lib.IntN.{ℤ, pos, neg_ℤ, ◌-ℤ◌, +ℤ_idl}
use mir.Syntax.{w64}
use mir.Val.{to_z, of_z}
use Rattle.integer.proofs.Bounds.{within_more, within_neg, sfits_within}
use Rattle.integer.proofs.TwosComplement.{read_back, read_within}
use Rattle.position.specs.Box.{CelestialBox}
use Rattle.position.specs.declared.Position.{Position}
use Rattle.sun.specs.Contract.{WithinOne}
use Rattle.sun.specs.declared.Direction.{Direction}
use Rattle.eclipse.specs.Dot.{dot_of}
use Rattle.eclipse.specs.Shade.{projection}
use Rattle.eclipse.specs.Contract.{DepthBound}
use Rattle.eclipse.proofs.Bounds.{projection_within}
use Rattle.eclipse.proofs.Cases.{lit_before, shaded_behind}
use Rattle.eclipse.proofs.shade_at.Goals as goal

-- p, from the components as they are read back
module _ {q : Position} {sun : Direction} {p : ℤ} (pre : CelestialBox q × WithinOne sun) (e : p ≡ dot_of (to_z w64 (of_z w64 q.x)) (to_z w64 (of_z w64 q.y)) (to_z w64 (of_z w64 q.z)) sun) where
  p_is : p ≡ projection q sun
  p_is = let b = pre.0 in rw (read_within b.x_within tt, read_within b.y_within tt, read_within b.z_within tt) at e

  p_within : DepthBound p
  p_within = rw p_is (projection_within pre.0 pre.1)

  p_read : to_z w64 (of_z w64 p) ≡ p
  p_read = read_within p_within tt

  depth_within : DepthBound (pos 0 -ℤ p)
  depth_within = rw (+ℤ_idl (neg_ℤ p)) (within_neg p_within)

  depth_read : to_z w64 (of_z w64 (pos 0 -ℤ p)) ≡ pos 0 -ℤ p
  depth_read = read_within depth_within tt

pub dot-p-requires : goal.dot-p-requires
dot-p-requires c =
    let b = c.requires.0 in (
      rw (read_within b.x_within tt) (within_more b.x_within (lit≤ tt)),
      rw (read_within b.y_within tt) (within_more b.y_within (lit≤ tt)),
      rw (read_within b.z_within tt) (within_more b.z_within (lit≤ tt)),
      c.requires.1,
    )

pub overflow_sub-p : goal.overflow_sub-p
overflow_sub-p c =
    let e = c.dot-p.ensures in
    rw (p_read c.requires e) (sfits_within (depth_within c.requires e) tt)

pub side_squared-requires : goal.side_squared-requires
side_squared-requires c =
    let e = c.dot-p.ensures in
    (c.requires.0, rw (p_read c.requires e) (p_within c.requires e))

pub shade_behind-requires : goal.shade_behind-requires
shade_behind-requires c =
    let e = c.dot-p.ensures in
    rw (p_read c.requires e, depth_read c.requires e) (depth_within c.requires e)

pub returns-then-p-lt0 : goal.returns-then-p-lt0
returns-then-p-lt0 c =
    let s = c.side_squared in
    let e = c.dot-p.ensures in
    let r = p_read c.requires e in
    rw (r, depth_read c.requires e, +ℤ_idl (neg_ℤ c.dot-p.result), read_back s.result s.type_inv, s.ensures, r) at c.shade_behind.ensures
    ∙ shaded_behind _ _ _ (p_is c.requires e) (rw r at c.if-p-lt0.true)

pub returns-else-p-lt0 : goal.returns-else-p-lt0
returns-else-p-lt0 c =
    let e = c.dot-p.ensures in
    lit_before _ _ _ (p_is c.requires e) (rw (p_read c.requires e) at c.if-p-lt0.false)
