-- `kepler::window::of_guess` meets its contract. Assumes nothing.
use Rattle.kepler.proofs.Decided.{decides, decides_middle}
use Rattle.kepler.proofs.window.of_guess.Goals as goal

pub returns-then-narrow-2 : goal.returns-then-narrow-2
returns-then-narrow-2 c = decides_middle _ _ _ _ _ c.requires.0 c.requires.2 c.around-narrow.ensures c.if-narrow.true c.if-narrow-2.true

pub returns-else-narrow : goal.returns-else-narrow
returns-else-narrow c = decides _ _ _ _ _ c.requires.0 c.requires.2 c.around.ensures
