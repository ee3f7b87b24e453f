-- A field is bad where its place is not 0. Assumes nothing.
use mathlib.Core.Path.{◌≡◌, refl}
use mathlib.Core.Bool.{Bool, true, false, cond}
use mathlib.Core.List.{List}
use Prim.Native.Nat.{ℕ, ◌+◌, ◌≤◌}
use native.Mathlib.Omega.{arith}
use Rattle.std.specs.Prelude.{is_some}
use Rattle.two_line_fields.specs.Fields.{field_of, place_or}
use Rattle.two_line_fields.specs.declared.columns.Field.{Field}

module _ (ahead : ℕ) (line : List ℕ) (f : Field) (later : ℕ) where
  pub good_passed : 1 ≤ f.column → place_or ahead line f 0 ≡ 0 → place_or ahead line f later ≡ later
  unfolding place_or
  good_passed h = either (is_some (field_of line f))
    where
      either : (t : Bool) → cond t 0 (ahead + f.column) ≡ 0 → cond t later (ahead + f.column) ≡ later
      either true e = refl
      either false e = absurd (omega arith)

  pub bad_placed : (place_or ahead line f 0 ≡ 0 → ⊥) → place_or ahead line f 0 ≡ place_or ahead line f later
  unfolding place_or
  bad_placed = either (is_some (field_of line f))
    where
      either : (t : Bool) → (cond t 0 (ahead + f.column) ≡ 0 → ⊥) → cond t 0 (ahead + f.column) ≡ cond t later (ahead + f.column)
      either true e = absurd (e refl)
      either false e = refl
