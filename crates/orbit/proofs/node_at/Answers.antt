-- `orbit::node_at` meets its contract. Assumes nothing.
use borrow.Author.Rules.{rules}
use Rattle.elements.proofs.Accepted.{accepted_at}
use Rattle.orbit.proofs.node_at.Goals as goal

pub drift_at-requires : goal.drift_at-requires
drift_at-requires c = let a = (accepted_at _ _ c.args.at.passed).elements in search rules
