-- `position::turned` meets its contract. Assumes nothing.
use borrow.Author.Rules.{rules}
use Rattle.integer.proofs.Bounds.{sfits_within}
use Rattle.position.specs.Turn.{turned_first, turned_second}
use Rattle.position.proofs.Bounds.{turn_sizes}
use Rattle.position.proofs.turned.Goals as goal

pub overflow_mul-result : goal.overflow_mul-result
overflow_mul-result c = let z = turn_sizes c.args.angle c.requires in search (rules, sfits_within)

pub overflow_mul-result-2 : goal.overflow_mul-result-2
overflow_mul-result-2 c = let z = turn_sizes c.args.angle c.requires in search (rules, sfits_within)

pub overflow_sub-result : goal.overflow_sub-result
overflow_sub-result c = let z = turn_sizes c.args.angle c.requires in search (rules, sfits_within)

pub overflow_mul-result-3 : goal.overflow_mul-result-3
overflow_mul-result-3 c = let z = turn_sizes c.args.angle c.requires in search (rules, sfits_within)

pub overflow_mul-result-4 : goal.overflow_mul-result-4
overflow_mul-result-4 c = let z = turn_sizes c.args.angle c.requires in search (rules, sfits_within)

pub overflow_add-result : goal.overflow_add-result
overflow_add-result c = let z = turn_sizes c.args.angle c.requires in search (rules, sfits_within)

pub returns : goal.returns
unfolding turned_first turned_second
returns c =
    let z = turn_sizes c.args.angle c.requires in
    let a = c.args.angle in
    record {
      first_is = rw (← a.cosine_is, ← a.sine_is) (search (rules, sfits_within));
      second_is = rw (← a.cosine_is, ← a.sine_is) (search (rules, sfits_within));
    }
