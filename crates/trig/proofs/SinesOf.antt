-- Every `Sines` has the sine and the cosine of its angle, within ±2^30, also as the machine reads them. Assumes nothing.
use mathlib.Core.Path.{◌≡◌, ◌∙◌}
use mir.Syntax.{w64}
use mir.Val.{to_z, of_z}
use Rattle.integer.proofs.TwosComplement.{read_within}
use Rattle.trig.specs.Sine.{S, C}
use Rattle.trig.specs.Sines.{SinesOf}
use Rattle.trig.specs.declared.Sines.{Sines}
use Rattle.trig.proofs.Quarters.{S-within, C-within}

module _ (r : Sines) where
  pub sines_of : SinesOf r
  sines_of =
      record {
        sine_is = r.sine_is;
        cosine_is = r.cosine_is;
        sine_within = rw r.sine_is (S-within r.angle);
        cosine_within = rw r.cosine_is (C-within r.angle);
      }

  pub sine_read : to_z w64 (of_z w64 r.sine) ≡ S r.angle
  sine_read = read_within sines_of.sine_within tt ∙ r.sine_is

  pub cosine_read : to_z w64 (of_z w64 r.cosine) ≡ C r.angle
  cosine_read = read_within sines_of.cosine_within tt ∙ r.cosine_is
