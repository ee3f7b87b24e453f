-- What holds of every shade: dark lies within part, and the Sun's side of the Earth is lit. Assumes nothing.
use Rattle.std.specs.Prelude.{◌≡◌, true, false, ℕ, ℤ, pos}
use Rattle.std.specs.Int.Signed.{lt_z}
use Rattle.shade.specs.declared.Shade.TheVariants.{Lit}
use Rattle.position.specs.declared.Position.{Position}
use Rattle.sun.specs.declared.Direction.{Direction}
use Rattle.eclipse.specs.Shade.{projection, umbra_radius, penumbra_radius, below_square, shade_of}

-- what is below the square of the umbra's radius is below that of the penumbra's, at every depth
abbrev pub UmbraWithinPenumbra : Type 0
UmbraWithinPenumbra = (d : ℕ) (side² : ℤ) → below_square side² (umbra_radius (pos d)) ≡ true → below_square side² (penumbra_radius (pos d)) ≡ true

-- with p ≥ 0 lit
abbrev pub SunwardLit : Type 0
SunwardLit = (q : Position) (sun : Direction) → lt_z (projection q sun) (pos 0) ≡ false → Lit ≡ shade_of q sun
