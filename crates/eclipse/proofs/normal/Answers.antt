-- `eclipse::normal` meets its contract. Assumes nothing.
use mathlib.Core.Path.{◌≡◌, ◌∙◌}
use Prim.Native.Nat.{ℕ}
use lib.Dec.{lit≤}
use lib.IntN.{ℤ, pos, ◌-ℤ◌, neg_ℤ, +ℤ_idl}
use mir.Syntax.{w64}
use mir.Val.{SFits}
use mir.Facts.{to_z-of_z}
use Rattle.integer.proofs.Bounds.{within_mul, within_more, within_neg, sfits_within}
use Rattle.integer.proofs.TwosComplement.{read_back}
use Rattle.trig.specs.Sine.{S, C}
use Rattle.trig.proofs.Quarters.{S-within, C-within}
use Rattle.trig.proofs.SinesOf.{sine_read, cosine_read}
use Rattle.sun.specs.Sun.{scaled}
use Rattle.sun.proofs.Bounds.{within_scaled}
use Rattle.sun.proofs.Components.{same_direction}
use Rattle.eclipse.specs.Elevation.{normal_of}
use Rattle.eclipse.proofs.SolarElevation.{normal_at}
use Rattle.eclipse.proofs.normal.Goals as goal

pub scaled-requires : goal.scaled-requires
scaled-requires c =
    rw (sine_read c.args.inclination, sine_read c.args.node) (within_more (within_mul (S-within _) (S-within _)) (lit≤ tt))

pub scaled-requires-2 : goal.scaled-requires-2
scaled-requires-2 c =
    rw (sine_read c.args.inclination, cosine_read c.args.node) (within_more (within_mul (S-within _) (C-within _)) (lit≤ tt))

-- 0 - z, where z is S(i)·C(node)/2^30 as it is read back
minus_fits : (i node : ℕ) {z : ℤ} → z ≡ scaled (S i) (C node) → SFits w64 (pos 0 -ℤ z)
minus_fits i node e = rw (e, +ℤ_idl (neg_ℤ (scaled (S i) (C node)))) (sfits_within (within_neg (within_scaled (S-within i) (C-within node))) tt)

pub overflow_sub-result : goal.overflow_sub-result
overflow_sub-result c =
    let y = c.scaled-2 in
    minus_fits _ _ (read_back y.result y.type_inv ∙ rw (sine_read c.args.inclination, cosine_read c.args.node) at y.ensures)

pub returns : goal.returns
unfolding normal_of
returns c =
    let i = c.args.inclination in
    let n = c.args.node in
    let x = c.scaled in
    let y = c.scaled-2 in
    let y_is = read_back y.result y.type_inv ∙ rw (sine_read i, cosine_read n) at y.ensures in
    normal_at
    _
    _
    (same_direction
    (read_back x.result x.type_inv ∙ rw (sine_read i, sine_read n) at x.ensures)
    (to_z-of_z (minus_fits _ _ y_is) ∙ rw y_is (+ℤ_idl _))
    (cosine_read i))
