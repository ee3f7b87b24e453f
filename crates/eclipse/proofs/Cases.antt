-- The cases of the shade rule and of refusal 14, each from the tests that lead to it. Assumes nothing.
use mathlib.Core.Path.{◌≡◌, refl}
use mathlib.Core.Bool.{true, false}
use Prim.Native.Nat.{◌^◌}
use lib.IntN.{ℤ, pos, neg_ℤ}
use lib.Signed.{lt_z}
use Rattle.refusal.specs.declared.Refusal.TheVariants.{Component}
use Rattle.shade.specs.declared.Shade.TheVariants.{Lit}
use Rattle.position.specs.declared.Position.{Position}
use Rattle.sun.specs.declared.Direction.{Direction}
use Rattle.eclipse.specs.Shade.{projection, side_squared, shade_behind, shade_of, any_beyond, out_of_range, shade_answer}
use Rattle.eclipse.specs.ShadeLaws.{SunwardLit}
use Rattle.std.specs.Prelude.{Err, Ok}

module _ (q : Position) (sun : Direction) (p : ℤ) (e : p ≡ projection q sun) where
  pub lit_before : lt_z p (pos 0) ≡ false → Lit ≡ shade_of q sun
  unfolding shade_of
  lit_before t = rw (← e, t)

  pub shaded_behind : lt_z p (pos 0) ≡ true → shade_behind (neg_ℤ p) (side_squared q p) ≡ shade_of q sun
  unfolding shade_of
  shaded_behind t = rw (← e, t)

pub sunward_lit : SunwardLit
sunward_lit q sun = lit_before q sun _ refl

module _ (q : Position) (sun : Direction) where
  pub position_refused : any_beyond 200_000_000 q.x q.y q.z ≡ true → Err Component ≡ shade_answer q sun
  unfolding out_of_range shade_answer
  position_refused e = rw e

  pub sun_refused : any_beyond 200_000_000 q.x q.y q.z ≡ false → any_beyond (2 ^ 30) sun.x sun.y sun.z ≡ true
      → Err Component ≡ shade_answer q sun
  unfolding out_of_range shade_answer
  sun_refused e f = rw (e, f)

  pub shaded : any_beyond 200_000_000 q.x q.y q.z ≡ false → any_beyond (2 ^ 30) sun.x sun.y sun.z ≡ false
      → Ok (shade_of q sun) ≡ shade_answer q sun
  unfolding out_of_range shade_answer
  shaded e f = rw (e, f)
