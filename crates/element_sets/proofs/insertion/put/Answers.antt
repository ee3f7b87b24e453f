-- `element_sets::insertion::put` meets its contract. Assumes nothing.
use mathlib.Core.Path.{sym, ap, ◌∙◌}
use mir.Syntax.{w64}
use mir.Val.{SFits}
use mir.Facts.{to_z-of_z}
use borrow.Author.Rules.{rules}
use Rattle.std.specs.Result.{result_ok}
use Rattle.element_sets.proofs.Puts.{put_placed, set_stored}
use Rattle.element_sets.proofs.insertion.put.Goals as goal

pub returns : goal.returns
returns c =
    let a = c.args in
    let epoch : SFits w64 a.elements.epoch = search rules in
    let found = sym (rw (to_z-of_z epoch) at c.scan_table.ensures) ∙ c.ok_or.ensures.ok_part ∙ ap result_ok c.in_ok-split.was in (
      put_placed a.elements a.buffer.now a.size found (sym c.check.ensures ∙ c.in_ok-check.was) c.if-buffer-end.false,
      c.place.ensures ∙ set_stored a.elements a.buffer.now a.size found,
    )
