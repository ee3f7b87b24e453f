-- The bytes of the names. Assumes nothing.
use mathlib.Core.Path.{◌≡◌, refl}
use mathlib.Core.Bool.{Bool, true, false}
use Prim.Native.Nat.{ℕ, ◌+◌, ◌*◌, ◌≤◌, ◌<◌}
use native.Mathlib.Omega.{arith}
use borrow.Author.Tests.{ltb-true, ltb-false}
use lib.Dec.{ltb}
use lib.ListN.{length, get_or-eq_default}
use Rattle.elements_file.specs.Names.{names, name_byte}

names_length : length names ≡ 336
unfolding names
names_length = refl

pub name_past : (element k : ℕ) → 336 ≤ 28 * element + k → name_byte element k ≡ 32
unfolding name_byte
name_past element k h = get_or-eq_default names 32 (omega (arith, names_length))

inside_by : (element k : ℕ) (t : Bool) → ltb (28 * element + k) 336 ≡ t → (name_byte element k ≡ 32 → ⊥) → 28 * element + k < 336
inside_by element k true e h = ltb-true (28 * element + k) 336 e
inside_by element k false e h = absurd (h (name_past element k (ltb-false (28 * element + k) 336 e)))

-- a byte that is no space stands within the names
pub name_inside : (element k : ℕ) → (name_byte element k ≡ 32 → ⊥) → 28 * element + k < 336
name_inside element k h = inside_by element k (ltb (28 * element + k) 336) refl h
