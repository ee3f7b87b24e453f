-- `eclipse::dot` meets its contract. Assumes nothing.
use borrow.Author.Rules.{rules}
use Rattle.integer.proofs.Bounds.{sfits_within}
use Rattle.eclipse.specs.Dot.{dot_of}
use Rattle.eclipse.proofs.Bounds.{dot_sizes}
use Rattle.eclipse.proofs.dot.Goals as goal

pub returns : goal.returns
unfolding dot_of
returns c = let b = dot_sizes c.requires in search (rules, sfits_within)

pub overflow_add-result : goal.overflow_add-result
overflow_add-result c = let b = dot_sizes c.requires in search (rules, sfits_within)

pub overflow_mul-result-3 : goal.overflow_mul-result-3
overflow_mul-result-3 c = let b = dot_sizes c.requires in search (rules, sfits_within)

pub overflow_add-result-2 : goal.overflow_add-result-2
overflow_add-result-2 c = let b = dot_sizes c.requires in search (rules, sfits_within)
