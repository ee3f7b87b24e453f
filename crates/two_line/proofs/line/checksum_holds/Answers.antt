-- `two_line::line::checksum_holds` meets its contract. Assumes nothing.
use Rattle.std.proofs.Common.{rules, arith, ◌≤◌, ◌^◌, length}
use mathlib.Core.Path.{◌∙◌}
use lib.ListN.{length-take, take}
use Rattle.std.proofs.lemmas.Iterator.{YieldsList-from_slice, YieldsList-from_take, YieldsList-from_map}
use Rattle.std.proofs.lemmas.Iterator.Adapters.{fits_from_length, at_most_from_yields_List}
use Rattle.std.proofs.lemmas.Iterator.Consumers.{YieldsList-at, sum_by_from_yields_List}
use Rattle.two_line.specs.Lines.{weight, checksum_holds}
use Rattle.two_line.proofs.Checksums.{weight_small, weights_summed}
use Rattle.two_line.proofs.line.checksum_holds.Goals as goal

pub sum-sum-requires-clause-fits : goal.sum-sum-requires-clause-fits
sum-sum-requires-clause-fits c =
    let few : length (take 68 c.args.line.now) ≤ 68 = omega (arith, length-take 68 c.args.line.now) in
    fits_from_length _ _ 68 (2 ^ 64) (at_most_from_yields_List (YieldsList-at c.map.ensures.source (YieldsList-from_take 68 (YieldsList-from_slice c.args.line.now (cc)) c.take.ensures.count)) few) c.map.ensures.closure (omega arith) (λ x r q k. search (rules, weight_small x.now))

pub returns : goal.returns
unfolding checksum_holds
returns c =
    let line = c.args.line.now in
    let summed = sum_by_from_yields_List weight (take 68 line) c.map.result _ c.sum-sum.ensures.ran (YieldsList-from_map _ weight (YieldsList-at c.map.ensures.source (YieldsList-from_take 68 (YieldsList-from_slice line (cc)) c.take.ensures.count)) c.map.ensures.closure (λ x r q k. search rules)) in
    rw (c.from.ensures, c.byte.ensures, summed ∙ weights_summed line 68)
