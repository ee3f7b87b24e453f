-- `yurdelmiz::yurdelmiz_shade` meets its contract. Assumes nothing.
use mathlib.Core.List.{[], ◌∷◌}
use borrow.Author.Rules.{rules}
use Rattle.endian.proofs.Stores.{over_all}
use Rattle.statuses.specs.Call.{call_of}
use Rattle.yurdelmiz.specs.Calls.{shade_call}
use Rattle.yurdelmiz.proofs.yurdelmiz_shade.Goals as goal

pub returns-in-Ok : goal.returns-in-Ok
unfolding shade_call call_of
returns-in-Ok c =
    let written = over_all c.args.answer.now (c.code.result ∷ []) c.if-answer-ne1.false in
    search rules
