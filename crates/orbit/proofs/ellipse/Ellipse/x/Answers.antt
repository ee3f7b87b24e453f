-- `orbit::ellipse::Ellipse::x` meets its contract. Assumes nothing.
use mathlib.Core.Path.{◌≡◌, ◌∙◌, ap}
use native.Mathlib.Omega.{arith}
use lib.Dec.{lit≤}
use lib.IntN.{pos, ◌-ℤ◌, ◌*ℤ◌}
use mir.Syntax.{w64}
use mir.Val.{to_z, of_z}
use mir.Facts.{to_z-of_z, to_z_pos}
use Rattle.integer.proofs.Bounds.{within_more, sfits_within}
use Rattle.orbit.specs.Ellipse.{e30}
use Rattle.orbit.proofs.Distances.{offset_within, x_product_within}
use Rattle.orbit.proofs.ellipse.Ellipse.x.Goals as goal
use Rattle.orbit.proofs.ellipse.Ellipse.x.Goals.{After-eccentricity30}

offset_is : (c : After-eccentricity30) → to_z w64 (of_z w64 c.args.cosine) -ℤ to_z w64 c.eccentricity30.result ≡ c.args.cosine -ℤ pos (e30 c.args.self.eccentricity)
offset_is c =
    let k = to_z_pos w64 {n = c.eccentricity30.result} (omega (arith, c.eccentricity30.ensures.1)) ∙ ap pos c.eccentricity30.ensures.0 in
    rw (to_z-of_z c.ranges.cosine, k)

pub overflow_sub-cosine : goal.overflow_sub-cosine
overflow_sub-cosine c = rw (offset_is c) (sfits_within (offset_within c.args.self.semi_major_axis c.args.self.eccentricity c.args.cosine c.args.self.axis_le c.args.self.eccentricity_le c.requires) tt)

product_is : (c : After-eccentricity30) → to_z w64 c.args.self.semi_major_axis *ℤ to_z w64 (of_z w64 (to_z w64 (of_z w64 c.args.cosine) -ℤ to_z w64 c.eccentricity30.result)) ≡ pos c.args.self.semi_major_axis *ℤ (c.args.cosine -ℤ pos (e30 c.args.self.eccentricity))
product_is c = rw (to_z_pos w64 {n = c.args.self.semi_major_axis} (omega arith), to_z-of_z (overflow_sub-cosine c), offset_is c)

pub scaled-requires : goal.scaled-requires
scaled-requires c = rw (product_is c) (within_more (x_product_within c.args.self.semi_major_axis c.args.self.eccentricity c.args.cosine c.args.self.axis_le c.args.self.eccentricity_le c.requires) (lit≤ tt))
