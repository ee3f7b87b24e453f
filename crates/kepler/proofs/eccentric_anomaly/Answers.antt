-- `kepler::eccentric_anomaly` meets its contract. Assumes nothing.
use Rattle.std.proofs.Common.{subst, rules}
use Rattle.kepler.specs.Contract.{AnomalyAt}
use Rattle.kepler.proofs.Answer.{anomaly_at, circle, ellipse, lower_end_below}
use Rattle.kepler.proofs.Recursion.{halved_turn}
use Rattle.kepler.proofs.eccentric_anomaly.Goals as goal

pub returns-then-eccentricity-eq0 : goal.returns-then-eccentricity-eq0
returns-then-eccentricity-eq0 c =
    subst (AnomalyAt _ _) (circle _ _ c.if-eccentricity-eq0.true) (anomaly_at _ _ c.requires (search rules))

pub overflow_cast-angle : goal.overflow_cast-angle
overflow_cast-angle c =
    let i = halved_turn _ _ _ _ c.of_guess-window.ensures _ c.halve-lower_end.ensures in
    record { fits = lower_end_below _ _ _ c.if-eccentricity-eq0.false i (search rules) }

pub returns : goal.returns
returns c =
    let i = halved_turn _ _ _ _ c.of_guess-window.ensures _ c.halve-lower_end.ensures in
    subst (AnomalyAt _ _) (ellipse _ _ _ c.if-eccentricity-eq0.false i) (anomaly_at _ _ c.requires (search rules))
