-- `orbit::turns::elapsed` meets its contract. Assumes nothing.
use mathlib.Core.Path.{refl}
use mir.Syntax.{w64}
use mir.Val.{SFits}
use mir.Facts.{to_z-of_z}
use borrow.Author.Rules.{rules}
use Rattle.integer.proofs.Bounds.{sfits_within}
use Rattle.elements.proofs.Accepted.{AcceptedAt, accepted_at}
use Rattle.orbit.proofs.turns.elapsed.Goals as goal
use Rattle.orbit.proofs.turns.elapsed.Goals.{Start}

accepted : (s : Start) → AcceptedAt s.args.at.elements s.args.at.time
accepted s = accepted_at s.args.at.elements s.args.at.time s.args.at.passed

time_fits : (s : Start) → SFits w64 s.args.at.time
time_fits s = search rules

epoch_fits : (s : Start) → SFits w64 s.args.at.elements.epoch
epoch_fits s = search rules

pub overflow_sub-result : goal.overflow_sub-result
overflow_sub-result c =
    let s = (goal.at.overflow_sub-result c).Start in
    rw (to_z-of_z (time_fits s), to_z-of_z (epoch_fits s)) (sfits_within (accepted s).near.elapsed tt)

pub returns : goal.returns
returns c =
    let s = (goal.at.returns c).Start in
    rw (to_z-of_z (overflow_sub-result c), to_z-of_z (time_fits s), to_z-of_z (epoch_fits s))
    (record { is = refl; small = (accepted s).near.elapsed })
