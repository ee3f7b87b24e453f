-- `orbit::ellipse::Ellipse::y` meets its contract. Assumes nothing.
use mathlib.Core.Path.{◌≡◌}
use native.Mathlib.Omega.{arith}
use lib.Dec.{lit≤}
use lib.IntN.{pos, ◌*ℤ◌}
use lib.Signed.{quot_z}
use mir.Syntax.{w64}
use mir.Val.{to_z, of_z}
use mir.Facts.{to_z-of_z, to_z_pos}
use Rattle.integer.proofs.Bounds.{within_pos, within_mul, within_more}
use Rattle.orbit.proofs.Distances.{scaled_is, height_within}
use Rattle.orbit.proofs.ellipse.Ellipse.y.Goals as goal
use Rattle.orbit.proofs.ellipse.Ellipse.y.Goals.{After-scaled, Start}

inner_is : (c : Start) → to_z w64 c.args.self.minor_axis *ℤ to_z w64 (of_z w64 c.args.sine) ≡ pos c.args.self.minor_axis *ℤ c.args.sine
inner_is c = rw (to_z_pos w64 {n = c.args.self.minor_axis} (omega arith), to_z-of_z c.ranges.sine)

height_is : (c : After-scaled) → to_z w64 (of_z w64 c.scaled.result) ≡ quot_z (pos c.args.self.minor_axis *ℤ c.args.sine) (pos 1073741824)
height_is c = scaled_is _ c.scaled.type_inv c.scaled.ensures (inner_is (goal.at.After-scaled c).Start)

outer_is : (c : After-scaled) → to_z w64 c.args.self.semi_major_axis *ℤ to_z w64 (of_z w64 c.scaled.result) ≡ pos c.args.self.semi_major_axis *ℤ quot_z (pos c.args.self.minor_axis *ℤ c.args.sine) (pos 1073741824)
outer_is c = rw (to_z_pos w64 {n = c.args.self.semi_major_axis} (omega arith), height_is c)

pub scaled-requires-2 : goal.scaled-requires-2
scaled-requires-2 c =
    rw (outer_is c)
    (within_more (within_mul (within_pos c.args.self.axis_le) (height_within c.args.self.semi_major_axis c.args.self.minor_axis c.args.sine c.args.self.axis_le c.args.self.minor_le c.requires)) (lit≤ tt))
