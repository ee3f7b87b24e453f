-- The codes from 0 to 2 are the shades', one each. Assumes nothing.
use mathlib.Core.Path.{◌≡◌, refl, sym, ap, ◌∙◌}
use mathlib.Core.Bool.{cond}
use Prim.Native.Nat.{ℕ, zero, suc, ◌≤◌}
use native.Mathlib.Omega.{arith}
use lib.Dec.{eqb}
use Rattle.shade.specs.Codes.{shade_code}
use Rattle.shade.specs.declared.Shade.{Shade}
use Rattle.shade.specs.declared.Shade.TheVariants.{Lit, Dark, Part}

-- the shade of a code
abbrev pub shade_with : ℕ → Shade
shade_with n = cond (eqb n (shade_code Lit)) Lit (cond (eqb n (shade_code Dark)) Dark Part)

shade_back : (s : Shade) → shade_with (shade_code s) ≡ s
shade_back Lit = refl
shade_back Dark = refl
shade_back Part = refl

pub one_shade : (s t : Shade) → shade_code s ≡ shade_code t → s ≡ t
one_shade s t e = sym (shade_back s) ∙ ap shade_with e ∙ shade_back t

pub code_back : (n : ℕ) → n ≤ shade_code Part → shade_code (shade_with n) ≡ n
code_back zero h = refl
code_back (suc zero) h = refl
code_back (suc (suc zero)) h = refl
code_back (suc (suc (suc n))) h = absurd (omega (arith, h))
