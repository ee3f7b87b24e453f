-- The bytes of figures say the figures again, and 48 zero bytes those of nothing. Assumes nothing.
use mathlib.Core.Path.{◌≡◌, refl, ap, ◌∙◌}
use Prim.Native.Nat.{ℕ, ◌*◌, ◌^◌, ◌<◌}
use native.Mathlib.Omega.{arith}
use lib.Ieee.{Float, binary32, of_bits, to_bits}
use lib.Ieee.Bits.{of_bits-to_bits, to_bits-lt}
use lib.ListN.{replicate}
use mir.Syntax.{w64}
use mir.Val.{SFits, of_z, to_z}
use Rattle.integer.proofs.Bounds.{within_more, sfits_within}
use Rattle.endian.specs.LittleEndian.{le4, le8, bytes4, bytes8}
use Rattle.endian.proofs.RoundTrip.{back4, back8, back_i64}
use Rattle.extreme.specs.Extremes.{Finite}
use Rattle.scale.specs.Figures.{nothing}
use Rattle.scale.specs.Contract.{Made}
use Rattle.scale.specs.declared.Figures.{Figures}
use Rattle.figures_buffer.specs.FigureBytes.{extreme_at, figures_in, figures_bytes}
use Rattle.std.specs.Prelude.{None, Option, Some}

pub zeros_nothing : figures_in (replicate 48 0) ≡ nothing
unfolding figures_in extreme_at nothing
zeros_nothing = refl

-- the watts that are held
held_back : (x : Float) → Finite x → Some (of_bits binary32 (le4 (bytes4 (to_bits binary32 x)) 0)) ≡ Some x
held_back x h =
    let bound : to_bits binary32 x < 2 ^ 32 = to_bits-lt binary32 x h.held in
    ap (λ (n : ℕ). Some (of_bits binary32 n)) (back4 (to_bits binary32 x) bound) ∙ ap Some (of_bits-to_bits binary32 x h.held)

-- all fields that the bytes of figures have, given the extremes
module _ (f : Figures) (made : Made f) where
  sines_fit : SFits w64 f.sines
  sines_fit = sfits_within (within_more {b = 2 ^ 30 * 1_024_000} made.bounded.sines_bound (omega (arith, made.labels_bound))) tt

  abbrev with : Option Float → Option Float → Figures
  with a b =
      record { files = f.files; labels = f.labels; dark = f.dark; valid = f.valid; least = a; greatest = b; sines = f.sines; squares = f.squares }

  squares_fit : f.squares < 2 ^ 64
  squares_fit = omega (arith, made.bounded.squares_bound, made.labels_bound)

  again : (g : Figures) (a b : Option Float) → g.files ≡ le4 (bytes4 f.files) 0 → g.labels ≡ le4 (bytes4 f.labels) 0 → g.dark ≡ le4 (bytes4 f.dark) 0
      → g.valid ≡ le4 (bytes4 f.valid) 0 → g.least ≡ a → g.greatest ≡ b → g.sines ≡ to_z w64 (le8 (bytes8 (of_z w64 f.sines)) 0) → g.squares ≡ le8 (bytes8 f.squares) 0
      → g ≡ with a b
  again g a b files labels dark valid least greatest sines squares =
      let files_are = files ∙ back4 f.files (omega (arith, made.files_bound)) in
      let labels_are = labels ∙ back4 f.labels (omega (arith, made.labels_bound)) in
      let dark_are = dark ∙ back4 f.dark (omega (arith, made.labels_bound, made.bounded.dark_bound)) in
      let valid_are = valid ∙ back4 f.valid (omega (arith, made.labels_bound, made.bounded.valid_bound)) in
      let sines_are = sines ∙ back_i64 f.sines sines_fit in
      let squares_are = squares ∙ back8 f.squares squares_fit in
      λ i. record {
        files = files_are i;
        labels = labels_are i;
        dark = dark_are i;
        valid = valid_are i;
        least = least i;
        greatest = greatest i;
        sines = sines_are i;
        squares = squares_are i;
      }

  by : (a b : Option Float) → ((x : Float) → a ≡ Some x → Finite x) → ((x : Float) → b ≡ Some x → Finite x) → figures_in (figures_bytes (with a b)) ≡ with a b
  unfolding figures_in figures_bytes extreme_at bytes8 bytes4
  by None None p q = again _ None None refl refl refl refl refl refl refl refl
  by None (Some y) p q = again _ None (Some y) refl refl refl refl refl (held_back y (q y refl)) refl refl
  by (Some x) None p q = again _ (Some x) None refl refl refl refl (held_back x (p x refl)) refl refl refl
  by (Some x) (Some y) p q = again _ (Some x) (Some y) refl refl refl refl (held_back x (p x refl)) (held_back y (q y refl)) refl refl

  pub figures_back : figures_in (figures_bytes f) ≡ f
  figures_back = by f.least f.greatest made.least_finite made.greatest_finite
