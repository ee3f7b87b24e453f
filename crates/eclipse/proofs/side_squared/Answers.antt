-- `eclipse::side_squared` meets its contract. Assumes nothing.
use borrow.Author.Rules.{rules}
use Rattle.integer.proofs.Bounds.{sfits_within}
use Rattle.eclipse.specs.Shade.{side_squared}
use Rattle.eclipse.proofs.Bounds.{side_sizes}
use Rattle.eclipse.proofs.side_squared.Goals as goal

pub returns : goal.returns
unfolding side_squared
returns c = let b = side_sizes c.requires in search (rules, sfits_within)

pub overflow_add-result-2 : goal.overflow_add-result-2
overflow_add-result-2 c = let b = side_sizes c.requires in search (rules, sfits_within)

pub overflow_sub-result : goal.overflow_sub-result
overflow_sub-result c = let b = side_sizes c.requires in search (rules, sfits_within)
