-- `eclipse::spread` meets its contract. Assumes nothing.
use borrow.Author.Rules.{rules}
use lib.Dec.{lit≤}
use mir.Facts.{to_z-of_z}
use Rattle.integer.proofs.Bounds.{within_quot, sfits_within}
use Rattle.integer.proofs.TwosComplement.{read_within}
use Rattle.eclipse.specs.Shade.{spread}
use Rattle.eclipse.proofs.Bounds.{spread_sizes}
use Rattle.eclipse.proofs.spread.Goals as goal

pub nonzero_div-result : goal.nonzero_div-result
nonzero_div-result c =
    let p = (spread_sizes c.requires).product in
    (lit≤ tt, rw (to_z-of_z c.ranges.depth, to_z-of_z c.ranges.radii, read_within p tt) (sfits_within (within_quot _ p) tt))

pub returns : goal.returns
unfolding spread
returns c = let b = spread_sizes c.requires in search (rules, sfits_within)
