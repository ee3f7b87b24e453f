-- `orbit::ellipse::Ellipse::radius` meets its contract. Assumes nothing.
use mathlib.Core.Path.{◌≡◌, ◌∙◌, ap}
use native.Mathlib.Omega.{arith}
use lib.Dec.{lit≤}
use lib.IntN.{ℤ, pos, ◌-ℤ◌, ◌*ℤ◌}
use lib.Signed.{quot_z}
use mir.Syntax.{w64}
use mir.Val.{to_z, of_z}
use mir.Facts.{to_z-of_z, to_z_pos}
use Rattle.integer.proofs.Bounds.{within_pos, within_mul, within_more, sfits_within}
use Rattle.orbit.specs.Ellipse.{e30, radius}
use Rattle.orbit.proofs.Distances.{scaled_is, factor_within}
use Rattle.orbit.proofs.ellipse.Ellipse.radius.Goals as goal
use Rattle.orbit.proofs.ellipse.Ellipse.radius.Goals.{After-eccentricity30, After-scaled}

inner_is : (c : After-eccentricity30) → to_z w64 c.eccentricity30.result *ℤ to_z w64 (of_z w64 c.args.cosine) ≡ pos (e30 c.args.self.eccentricity) *ℤ c.args.cosine
inner_is c =
    let k = to_z_pos w64 {n = c.eccentricity30.result} (omega (arith, c.eccentricity30.ensures.1)) ∙ ap pos c.eccentricity30.ensures.0 in
    rw (k, to_z-of_z c.ranges.cosine)

term_is : (c : After-scaled) → let a = c.args in pos 1073741824 -ℤ to_z w64 (of_z w64 c.scaled.result) ≡ pos 1073741824 -ℤ quot_z (pos (e30 a.self.eccentricity) *ℤ a.cosine) (pos 1073741824)
term_is c =
    ap (λ (z : ℤ). pos 1073741824 -ℤ z)
    (scaled_is _ c.scaled.type_inv c.scaled.ensures (inner_is (goal.at.After-scaled c).After-eccentricity30))

pub overflow_sub-scaled : goal.overflow_sub-scaled
overflow_sub-scaled c =
    rw (term_is c)
    (sfits_within (factor_within c.args.self.semi_major_axis c.args.self.eccentricity c.args.cosine c.args.self.axis_le c.args.self.eccentricity_le c.requires) tt)

outer_is : (c : After-scaled) → let a = c.args in to_z w64 a.self.semi_major_axis *ℤ to_z w64 (of_z w64 (pos 1073741824 -ℤ to_z w64 (of_z w64 c.scaled.result))) ≡ pos a.self.semi_major_axis *ℤ (pos 1073741824 -ℤ quot_z (pos (e30 a.self.eccentricity) *ℤ a.cosine) (pos 1073741824))
outer_is c = rw (to_z_pos w64 {n = c.args.self.semi_major_axis} (omega arith), to_z-of_z (overflow_sub-scaled c), term_is c)

pub scaled-requires-2 : goal.scaled-requires-2
scaled-requires-2 c =
    rw (outer_is c)
    (within_more (within_mul (within_pos c.args.self.axis_le) (factor_within c.args.self.semi_major_axis c.args.self.eccentricity c.args.cosine c.args.self.axis_le c.args.self.eccentricity_le c.requires)) (lit≤ tt))

pub returns : goal.returns
unfolding radius
returns c = scaled_is _ c.scaled-2.type_inv c.scaled-2.ensures (outer_is (goal.at.returns c).After-scaled)
