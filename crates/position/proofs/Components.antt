-- The components of a turned position, as the machine reads them. Assumes nothing.
use mathlib.Core.Path.{◌≡◌, ◌∙◌}
use Prim.Native.Nat.{ℕ, ◌^◌}
use lib.IntN.{ℤ, ◌*ℤ◌, +ℤ_comm, *ℤ_comm}
use mir.Syntax.{w64}
use mir.Val.{SFits, to_z, of_z}
use mir.Facts.{to_z-of_z}
use Rattle.integer.specs.Bound.{Within}
use Rattle.integer.proofs.TwosComplement.{read_within}
use Rattle.trig.specs.Sine.{S, C}
use Rattle.position.specs.Contract.{TurnedPair}
use Rattle.position.specs.Turn.{turned_first, turned_second, earth_fixed_of}
use Rattle.position.specs.declared.Position.{Position}

pub same_position : {a b c x y z : ℤ} → a ≡ x → b ≡ y → c ≡ z
    → ◌≡◌ {A = Position} (record { x = a; y = b; z = c }) (record { x = x; y = y; z = z })
same_position p q r = λ i. record { x = p i; y = q i; z = r i }

module _ {x y : ℤ} {angle : ℕ} {r : ℤ × ℤ} (h : Within (2 ^ 31) x) (k : Within (2 ^ 31) y) where
  pub read_turned : TurnedPair (to_z w64 (of_z w64 x)) (to_z w64 (of_z w64 y)) angle r → SFits w64 r.0 → SFits w64 r.1
      → (to_z w64 (of_z w64 r.0) ≡ turned_first x y angle) × (to_z w64 (of_z w64 r.1) ≡ turned_second x y angle)
  read_turned t f g =
      let p = read_within h tt in
      let q = read_within k tt in
      (to_z-of_z f ∙ cc t.first_is, to_z-of_z g ∙ cc t.second_is)

-- the turn of (y, x) is the Earth-fixed one
pub turned_back : (p : Position) (ghaa : ℕ) → record { x = turned_second p.y p.x ghaa; y = turned_first p.y p.x ghaa; z = p.z } ≡ earth_fixed_of p ghaa
unfolding turned_first turned_second earth_fixed_of
turned_back p ghaa = rw (*ℤ_comm (C ghaa) p.x, *ℤ_comm (S ghaa) p.y, *ℤ_comm (C ghaa) p.y, *ℤ_comm (S ghaa) p.x, +ℤ_comm (p.x *ℤ C ghaa) (p.y *ℤ S ghaa))
