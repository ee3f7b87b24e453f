-- `orbit::turns::linear_term` meets its contract. Assumes nothing.
use mathlib.Core.Path.{◌≡◌, ◌∙◌, sym}
use Prim.Native.Nat.{◌*◌}
use native.Mathlib.Omega.{arith}
use lib.IntN.{ℤ, pos, ◌*ℤ◌}
use mir.Syntax.{w64}
use mir.Val.{to_z, of_z}
use mir.Facts.{to_z-of_z, to_z_pos}
use Rattle.integer.specs.Bound.{Within}
use Rattle.integer.proofs.Bounds.{within_pos, within_mul, sfits_within}
use Rattle.orbit.specs.Turns.{linear_term}
use Rattle.orbit.proofs.AdvanceAndDrift.{linear_floor, linear_within}
use Rattle.orbit.proofs.turns.linear_term.Goals as goal
use Rattle.orbit.proofs.turns.linear_term.Goals.{Start}

-- n·Δ
abbrev motion : Start → ℤ
motion c = pos c.args.mean_motion *ℤ c.args.elapsed

pub overflow_mul-mean_motion : goal.overflow_mul-mean_motion
overflow_mul-mean_motion c =
    rw (to_z_pos w64 {n = c.args.mean_motion} (omega arith), to_z-of_z c.ranges.elapsed)
    (sfits_within (within_mul (within_pos c.requires.0) c.requires.1) tt)

-- the product that the code scales
motion_is : (c : Start) → to_z w64 (of_z w64 (to_z w64 c.args.mean_motion *ℤ to_z w64 (of_z w64 c.args.elapsed))) ≡ motion c
motion_is c =
    to_z-of_z (overflow_mul-mean_motion c) ∙ rw (to_z_pos w64 {n = c.args.mean_motion} (omega arith), to_z-of_z c.ranges.elapsed)

small : (c : Start) → Within (8000 * 4294967296) (linear_term c.args.mean_motion c.args.elapsed)
small c = linear_within _ _ c.requires.0 c.requires.1

pub returns : goal.returns
returns c =
    let r = c.floor_scaled in
    let e = to_z-of_z {w = w64} (record { sfits = r.type_inv }) ∙ rw (motion_is (goal.at.returns c).Start) at r.ensures ∙ sym (linear_floor _ _) in
    (e, rw e (small (goal.at.returns c).Start))
