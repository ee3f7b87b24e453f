-- `kepler::solve` meets its contract. Assumes nothing.
use Rattle.kepler.proofs.Answer.{answer_refused, answer_solved}
use Rattle.kepler.proofs.solve.Goals as goal

pub returns-then-eccentricity-gt9000000 : goal.returns-then-eccentricity-gt9000000
returns-then-eccentricity-gt9000000 c = answer_refused _ _ c.if-eccentricity-gt9000000.true

pub returns : goal.returns
returns c = answer_solved _ _ _ c.before.if-eccentricity-gt9000000.false c.eccentric_anomaly.ensures
