-- `element_sets::table::scan_rows` meets its contract. Assumes nothing.
use mathlib.Core.Path.{sym, ◌∙◌}
use native.Mathlib.Omega.{arith}
use mir.Syntax.{w64}
use mir.Facts.{to_z-of_z}
use borrow.Author.Count.{below_more}
use Rattle.sequence.proofs.Sequences.{leading_kept}
use Rattle.element_sets.proofs.Scans.{scan_sound, all_before, all_up_to}
use Rattle.element_sets.proofs.table.scan_rows.Goals as goal
use Rattle.element_sets.proofs.table.scan_rows.Goals.{then-epoch-time, else-epoch-time, then-epoch-time-2, else-epoch-time-2}

pub loop-k-preserved : goal.loop-k-preserved
loop-k-preserved c =
    let l = c.loop-k in
    let a = c.args in
    let keeps = below_more _ _ l.invariant.0 (sym c.keeps.ensures ∙ c.if-not-keeps.false) in
    let epoch = to_z-of_z {w = w64} (record { sfits = c.epoch-epoch.type_inv }) ∙ c.epoch-epoch.ensures in (
      keeps,
      elim c.if-epoch-time.branch [
        | then-epoch-time w ↦ w.earlier-is ∙ sym (all_before a.table.now _ l.k keeps (rw epoch at w.if-epoch-time.true))
        | else-epoch-time w ↦ w.earlier-is ∙ l.invariant.1 ∙ sym (leading_kept _ l.k (rw epoch at w.if-epoch-time.false))
      ],
      elim c.if-epoch-time-2.branch [
        | then-epoch-time-2 w ↦ w.up_to-is ∙ sym (all_up_to a.table.now _ l.k keeps (rw epoch at w.if-epoch-time-2.true))
        | else-epoch-time-2 w ↦ w.up_to-is ∙ l.invariant.2 ∙ sym (leading_kept _ l.k (rw epoch at w.if-epoch-time-2.false))
      ],
    )

pub returns : goal.returns
returns c =
    let l = c.loop-k in
    scan_sound c.args.table.now c.args.time (omega arith) (omega arith) (to_z-of_z c.ranges.time) l.invariant.0 l.invariant.1 l.invariant.2
