-- `label::encode` meets its contract. Assumes nothing.
use mir.Syntax.{w32, w64}
use mir.Val.{SFits}
use mir.Facts.{to_z-of_z}
use Rattle.label.proofs.Stored.{label_stored}
use borrow.Author.Rules.{rules}
use Rattle.label.proofs.encode.Goals as goal

pub returns : goal.returns
returns c =
    let t : SFits w64 c.args.label.time = search rules in
    let r : SFits w32 c.args.label.revolution = search rules in
    let e : SFits w32 c.args.label.elevation = search rules in
    label_stored c.args.label c.args.out.now c.write.new.out c.write-2.new.out c.write_four.new.out
    c.write-3.new.out c.write-4.new.out c.args.at (rw (to_z-of_z t) at c.write.ensures)
    (rw (to_z-of_z r) at c.write-2.ensures) (rw c.code-code.ensures at c.write_four.ensures)
    (rw (to_z-of_z e) at c.write-3.ensures) (rw c.watts_bits-watts.ensures at c.write-4.ensures)
