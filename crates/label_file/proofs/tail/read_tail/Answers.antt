-- `label_file::tail::read_tail` meets its contract. Assumes nothing.
use mathlib.Core.Path.{◌≡◌, ◌∙◌, sym, ap}
use Rattle.trailer.specs.declared.Form.{Form}
use Prim.Native.Nat.{ℕ}
use mathlib.Core.List.{List}
use lib.ListN.{length}
use Rattle.trailer.specs.Trailer.{trailer_at}
use Rattle.label_file.specs.Tail.{tail_size, dark_test_held, held_by}
use Rattle.label_file.specs.Contract.{TailAnswer}
use Rattle.label_file.proofs.Tails.{bytes_off, trailer_tells, answers}
use Rattle.label_file.proofs.tail.read_tail.Goals as goal
use Rattle.refusal.specs.declared.Refusal.{Refusal}
use native.Mathlib.Omega.{arith}
use Rattle.refusal.specs.declared.Refusal.TheVariants.{Trailer}
use Rattle.std.specs.Prelude.{Option, Result, Some, None, Ok, Err}
use Rattle.std.proofs.lemmas.Result.{err_from_is_err_and}
use Rattle.trailer.specs.declared.Contents.{Contents}

pub returns-then-tail-tail_size : goal.returns-then-tail-tail_size
returns-then-tail-tail_size c =
    let a = c.args in
    answers _ _ (sym (bytes_off a.tail.now a.size (λ n. c.if-tail-tail_size.true (n ∙ sym c.tail_size.ensures))))

-- as the trailer tells
tells : (tail : List ℕ) (size : ℕ) {t : Option Contents} {answer : Result (Option ℕ) Refusal} → length tail ≡ tail_size size → trailer_at tail size ≡ t
    → answer ≡ held_by t → TailAnswer tail size answer
tells tail size e t h = answers _ _ (h ∙ sym (trailer_tells tail size e t))

pub returns-in_err-form : goal.returns-in_err-form
returns-in_err-form c =
    let none : c.find.result ≡ None = grind arith in
    let told : c.in_err-form.field-0.0 ≡ Trailer = grind arith in
    let p = err_from_is_err_and c.from_residual.result c.from_residual.ensures.1 in
    tells c.args.tail.now c.args.size (c.if-tail-tail_size.false ∙ c.tail_size.ensures) (sym c.find.ensures ∙ none) (p.1 ∙ ap Err (p.2 ∙ told))

pub returns-in-Bytes16 : goal.returns-in-Bytes16
returns-in-Bytes16 c =
    let some : c.find.result ≡ Some c.in_ok-form.field-0 = grind arith in
    tells c.args.tail.now c.args.size (c.if-tail-tail_size.false ∙ c.tail_size.ensures) (sym c.find.ensures ∙ some)
    (ap (λ (form : Form). Ok (dark_test_held form c.in_ok-form.field-0.counts)) (sym c.in-Bytes16.is))

pub returns-in-Bytes24 : goal.returns-in-Bytes24
returns-in-Bytes24 c =
    let some : c.find.result ≡ Some c.in_ok-form.field-0 = grind arith in
    tells c.args.tail.now c.args.size (c.if-tail-tail_size.false ∙ c.tail_size.ensures) (sym c.find.ensures ∙ some)
    (ap (λ (form : Form). Ok (dark_test_held form c.in_ok-form.field-0.counts)) (sym c.in-Bytes24.is))
