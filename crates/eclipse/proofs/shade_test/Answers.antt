-- `eclipse::shade_test` meets its contract. Assumes nothing.
use borrow.Author.Rules.{rules}
use mathlib.Core.Path.{◌≡◌, sym, ◌∙◌}
use mathlib.Core.Bool.{Bool}
use Prim.Native.Nat.{ℕ, ◌^◌}
use lib.IntN.{ℤ}
use mir.Syntax.{w64}
use mir.Val.{SFits, to_z, of_z}
use mir.Facts.{to_z-of_z}
use Rattle.eclipse.specs.Shade.{any_beyond}
use Rattle.eclipse.proofs.Bounds.{position_in_box, sun_within_one}
use Rattle.eclipse.proofs.Cases.{position_refused, sun_refused, shaded}
use Rattle.eclipse.proofs.shade_test.Goals as goal
use Rattle.eclipse.proofs.shade_test.Goals.{After-any_beyond, After-any_beyond-2}

-- the test of three components as they are read back
beyond_is : {r : Bool} (bound : ℕ) (x y z : ℤ) → SFits w64 x → SFits w64 y → SFits w64 z
    → r ≡ any_beyond bound (to_z w64 (of_z w64 x)) (to_z w64 (of_z w64 y)) (to_z w64 (of_z w64 z)) → r ≡ any_beyond bound x y z
beyond_is bound x y z f g h e = rw (to_z-of_z f, to_z-of_z g, to_z-of_z h) at e

position_is : (c : After-any_beyond) → let q = c.args.position in
    c.any_beyond.result ≡ any_beyond 200_000_000 q.x q.y q.z
position_is c = beyond_is _ _ _ _ (search rules) (search rules) (search rules) c.any_beyond.ensures

sun_is : (c : After-any_beyond-2) → let d = c.args.sun in
    c.any_beyond-2.result ≡ any_beyond (2 ^ 30) d.x d.y d.z
sun_is c = beyond_is _ _ _ _ (search rules) (search rules) (search rules) c.any_beyond-2.ensures

pub returns-then-any_beyond : goal.returns-then-any_beyond
returns-then-any_beyond c = position_refused _ _ (sym (position_is (goal.at.returns-then-any_beyond c).After-any_beyond) ∙ c.if-any_beyond.true)

pub returns-then-any_beyond-2 : goal.returns-then-any_beyond-2
returns-then-any_beyond-2 c =
    sun_refused _ _ (sym (position_is (goal.at.returns-then-any_beyond-2 c).After-any_beyond) ∙ c.if-any_beyond.false) (sym (sun_is (goal.at.returns-then-any_beyond-2 c).After-any_beyond-2) ∙ c.if-any_beyond-2.true)

pub shade_at-requires : goal.shade_at-requires
shade_at-requires c = (
  position_in_box _ (sym (position_is (goal.at.shade_at-requires c).After-any_beyond) ∙ c.if-any_beyond.false),
  sun_within_one _ (sym (sun_is (goal.at.shade_at-requires c).After-any_beyond-2) ∙ c.if-any_beyond-2.false),
)

pub returns : goal.returns
returns c =
    rw c.shade_at.ensures
    (shaded _ _ (sym (position_is (goal.at.returns c).After-any_beyond) ∙ c.if-any_beyond.false) (sym (sun_is (goal.at.returns c).After-any_beyond-2) ∙ c.if-any_beyond-2.false))
