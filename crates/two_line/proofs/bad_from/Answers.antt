-- `two_line::bad_from` meets its contract. Assumes nothing.
use Prim.Native.Nat.{◌+◌, ◌≤◌}
use mathlib.Core.Path.{◌≡◌, sym, ◌∙◌}
use native.Mathlib.Omega.{arith}
use native.Mathlib.Numerals.{add-one}
use borrow.Author.Rules.{rules}
use lib.ListN.{drop}
use lib.Seq.{drop-cons}
use Rattle.two_line_fields.specs.Fields.{place_or, bad_from}
use Rattle.two_line.proofs.BadFields.{good_passed, bad_placed}
use Rattle.two_line.proofs.bad_from.Goals as goal
use Rattle.two_line.proofs.bad_from.Goals.{After-place_or-place}

-- the field and those behind it
parted : (c : After-place_or-place) → let a = c.args in place_or a.ahead a.line.now c.field-item.result (bad_from a.ahead a.line.now (drop (c.loop-field.field-index + 1) a.fields.now) a.later) ≡ bad_from a.ahead a.line.now a.fields.now a.later
parted c =
    let s = drop-cons c.args.fields.now c.loop-field.field-index c.field-item.result (omega arith) in
    rw add-one (rw (s, ← c.field-item.is) at c.loop-field.invariant)

pub returns-then-place-ne0 : goal.returns-then-place-ne0
returns-then-place-ne0 c =
    let a = c.args in
    let e = c.place_or-place.ensures in
    e ∙ bad_placed a.ahead a.line.now c.field-item.result _ (λ z. c.if-place-ne0.true (e ∙ z)) ∙ parted (goal.at.returns-then-place-ne0 c).After-place_or-place

pub loop-field-preserved : goal.loop-field-preserved
loop-field-preserved c =
    let a = c.args in
    let first : 1 ≤ c.field-item.result.column = search rules in
    sym (good_passed a.ahead a.line.now c.field-item.result _ first (sym c.place_or-place.ensures ∙ c.if-place-ne0.false)) ∙ parted (goal.at.loop-field-preserved c).After-place_or-place
