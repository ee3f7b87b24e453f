-- `orbit::turns::revolution` meets its contract. Assumes nothing.
use borrow.Author.Rules.{rules}
use mathlib.Core.Path.{◌≡◌, ◌∙◌, ap}
use Prim.Native.Nat.{◌+◌}
use native.Mathlib.Omega.{arith}
use lib.IntN.{ℤ, pos, ◌+ℤ◌}
use mir.Syntax.{w64}
use mir.Val.{SFits, to_z, of_z}
use mir.Facts.{to_z-of_z, to_z_pos}
use Rattle.integer.specs.Bound.{Within}
use Rattle.integer.proofs.Bounds.{within_pos, within_add, sfits_within}
use Rattle.orbit.proofs.Revolution.{passages_wrapped}
use Rattle.orbit.proofs.turns.revolution.Goals as goal
use Rattle.orbit.proofs.turns.revolution.Goals.{After-turned}

-- the number, as the machine holds it
abbrev number : After-turned → ℤ
number c = pos c.args.first +ℤ c.turned.result.quotient

number_within : (c : After-turned) → Within (99999 + 10002) (number c)
number_within c = within_add (within_pos c.requires.0) c.turned.ensures.1

number_is : (c : After-turned) → to_z w64 c.args.first +ℤ to_z w64 (of_z w64 c.turned.result.quotient) ≡ number c
number_is c =
    let fits : SFits w64 c.turned.result.quotient = search rules in
    rw (to_z_pos w64 {n = c.args.first} (omega arith), to_z-of_z fits)

pub overflow_add-result : goal.overflow_add-result
overflow_add-result c = rw (number_is (goal.at.overflow_add-result c).After-turned) (sfits_within (number_within (goal.at.overflow_add-result c).After-turned) tt)

pub overflow_cast-result-2 : goal.overflow_cast-result-2
overflow_cast-result-2 c = rw (to_z-of_z (overflow_add-result c), number_is (goal.at.overflow_cast-result-2 c).After-turned) (sfits_within (number_within (goal.at.overflow_cast-result-2 c).After-turned) tt)

pub returns : goal.returns
returns c =
    let a = c.args in
    let turns = rw (to_z-of_z c.ranges.gained) at c.turned.ensures.0.quotient_is in
    to_z-of_z (overflow_cast-result-2 c) ∙ to_z-of_z (overflow_add-result c) ∙ number_is (goal.at.returns c).After-turned
    ∙ ap (λ (z : ℤ). pos a.first +ℤ z) (turns ∙ passages_wrapped (a.mean_anomaly + a.argument_of_perigee) a.gained)
