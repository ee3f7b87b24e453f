-- `position::Position::earth_fixed` meets its contract. Assumes nothing.
use borrow.Author.Rules.{rules}
use mathlib.Core.Path.{◌∙◌}
use Rattle.integer.proofs.TwosComplement.{read_within}
use Rattle.position.proofs.Components.{same_position, read_turned, turned_back}
use Rattle.position.proofs.Position.earth_fixed.Goals as goal

pub returns : goal.returns
returns c =
    let pre = c.requires in
    let t = read_turned pre.y_within pre.x_within (rw c.of.ensures.angle_is at c.turned-y.ensures) (search rules) (search rules) in
    same_position t.1 t.0 (read_within pre.z_within tt) ∙ turned_back c.args.self c.args.ghaa
