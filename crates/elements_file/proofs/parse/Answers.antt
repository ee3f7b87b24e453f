-- `elements_file::parse` meets its contract. Assumes nothing.
use mathlib.Core.Path.{◌≡◌, refl, sym, ap, ◌∙◌}
use native.Mathlib.Omega.{arith}
use borrow.Author.Tests.{le-ltb}
use Rattle.elements_file.specs.Reading.{start, after_bytes, finished, parsed}
use Rattle.elements_file.proofs.Consistency.{start_consistent, step_consistent}
use Rattle.elements_file.proofs.Bytewise.{byte_read, all_read}
use Rattle.elements_file.proofs.parse.Goals as goal

pub loop-byte-init : goal.loop-byte-init
unfolding start
loop-byte-init c = (start_consistent, refl)

pub loop-byte-preserved : goal.loop-byte-preserved
loop-byte-preserved c =
    let l = c.loop-byte in
    let e = c.step-s.ensures in
    (rw e (step_consistent l.byte-index l.s _ l.invariant.0), rw e (byte_read l.s c.args.text.now l.byte-index (omega arith) ∙ l.invariant.1))

pub returns : goal.returns
unfolding parsed
returns c =
    let l = c.loop-byte in
    let text = c.args.text.now in
    let e : l.s ≡ after_bytes start text = sym (all_read l.s text l.byte-index (omega arith)) ∙ l.invariant.1 in
    rw (le-ltb _ _ c.if-text-gt65535.false) (c.finished.ensures ∙ ap finished e)
