-- The rows marked P: document 01, "Proof table (marked P) and other checks". Assumes nothing.
use Rattle.std.specs.Prelude.{List, [], ◌∷◌, ◌-◌, ◌^◌, ℤ, pos, neg_ℤ, Err, Ok, Result}
use Rattle.refusal.specs.Numbers.{number_of}
use Rattle.trig.specs.Sine.{S}
use Rattle.kepler.specs.Solution.{solution}
use Rattle.shade.specs.Codes.{shade_code}
use Rattle.eclipse.specs.Shade.{shade_answer}
use Rattle.label.specs.Sides.{side_of}
use Rattle.kepler.specs.declared.Anomaly.{Anomaly}
use Rattle.refusal.specs.declared.Refusal.{Refusal}
use Rattle.shade.specs.declared.Shade.{Shade}

-- what a definition gives, beside what the paper says it is
pub record Row : Type 0 where
  pub given : ℤ
  pub said : ℤ

infixl 5 ◌is◌
abbrev pub ◌is◌ : ℤ → ℤ → Row
a is b = record { given = a; said = b }

-- E where the solver's answer is one, and the refusal's number below zero
unfoldable pub anomaly_or : Result Anomaly Refusal → ℤ
anomaly_or (Ok r) = pos r.angle
anomaly_or (Err r) = neg_ℤ (pos (number_of r))

-- the code of a shade, and the refusal's number below zero
unfoldable pub shade_or : Result Shade Refusal → ℤ
shade_or (Ok s) = pos (shade_code s)
shade_or (Err r) = neg_ℤ (pos (number_of r))

-- the shade test of a position with z = 0 and the Sun along x
unfoldable pub shade_along_x : ℤ → ℤ → ℤ
shade_along_x x y = shade_or (shade_answer (record { x = x; y = y; z = pos 0 }) (record { x = pos (2 ^ 30); y = pos 0; z = pos 0 }))

unfoldable pub rows : List Row
rows =
    -- S
    (S 0 is pos 0) ∷ (S 1 is pos 1) ∷ (S 2 is pos 3) ∷ (S (2 ^ 30) is pos (2 ^ 30)) ∷ (S (2 ^ 31) is pos 0) ∷ (S (2 ^ 32 - 1) is neg_ℤ (pos 1))
    -- M = 2^31 with e = 9,000,000 gives E = 2^31; M = 0 gives 0; 9,000,001 gives 1
    ∷ (anomaly_or (solution 9_000_000 (2 ^ 31)) is pos (2 ^ 31)) ∷ (anomaly_or (solution 9_000_000 0) is pos 0) ∷ (anomaly_or (solution 9_000_001 0) is neg_ℤ (pos 1))
    -- with the Sun along x: the last metre of the umbra, the first and last of the penumbra, the first in sunlight, and noon
    ∷ (shade_along_x (neg_ℤ (pos 42_164_000)) (pos 6_183_633) is pos 1) ∷ (shade_along_x (neg_ℤ (pos 42_164_000)) (pos 6_183_634) is pos 2)
    ∷ (shade_along_x (neg_ℤ (pos 42_164_000)) (pos 6_575_960) is pos 2) ∷ (shade_along_x (neg_ℤ (pos 42_164_000)) (pos 6_575_961) is pos 0)
    ∷ (shade_along_x (pos 42_164_000) (pos 0) is pos 0)
    -- sides of revolutions
    ∷ (pos (side_of (pos 16)) is pos 0) ∷ (pos (side_of (pos 17)) is pos 1) ∷ (pos (side_of (pos 65)) is pos 2) ∷ []

-- the two columns
unfoldable pub given_by : List Row → List ℤ
given_by [] = []
given_by (r ∷ rs) = r.given ∷ given_by rs

unfoldable pub said_by : List Row → List ℤ
said_by [] = []
said_by (r ∷ rs) = r.said ∷ said_by rs
