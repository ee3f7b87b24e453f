-- `two_line::read` meets its contract. Assumes nothing.
use mathlib.Core.Path.{◌≡◌, sym, ap, ◌∙◌}
use mathlib.Core.Bool.{true, ◌&&◌}
use borrow.Author.Rules.{rules}
use lib.Dec.{eqb}
use mir.Facts.{to_z-of_z}
use Rattle.elements.specs.Elements.{checked}
use Rattle.elements.specs.declared.Elements.{Elements}
use Rattle.two_line_fields.specs.Fields.{first_bad, value_of}
use Rattle.two_line_fields.specs.Layout.{satellite_number}
use Rattle.two_line.specs.Lines.{begins, checksum_holds}
use Rattle.two_line.specs.Reading.{judged, two_line_reading}
use Rattle.two_line.proofs.Readings.{elements_judged}
use Rattle.two_line.proofs.read.Goals as goal
use Rattle.two_line.proofs.read.Goals.{After-taken_with-elements}
use Rattle.std.proofs.lemmas.Result.{err_from_is_err_and}
use Rattle.std.specs.Prelude.{Err}

judged_is : (c : After-taken_with-elements) → let a = c.args in judged (checked c.taken_with-elements.result) c.taken_with-elements.result ≡ two_line_reading a.first.now a.second.now a.semi_major_axis a.node_rate a.perigee_rate
unfolding first_bad
judged_is c =
    let a = c.args in
    let e = rw (to_z-of_z c.ranges.node_rate, to_z-of_z c.ranges.perigee_rate, c.mean_motion.ensures) at c.taken_with-elements.ensures in
    let begin : (begins 49 a.first.now && begins 50 a.second.now) ≡ true = search rules in
    let sums : (checksum_holds a.first.now && checksum_holds a.second.now) ≡ true = search rules in
    let none : eqb (first_bad a.first.now a.second.now) 0 ≡ true = search rules in
    let same : eqb (value_of a.first.now satellite_number) (value_of a.second.now satellite_number) ≡ true = search rules in
    ap (λ (el : Elements). judged (checked el) el) e ∙ elements_judged a.first.now a.second.now a.semi_major_axis a.node_rate a.perigee_rate begin sums none same

pub returns-in_err-check : goal.returns-in_err-check
returns-in_err-check c =
    let p = err_from_is_err_and c.from_residual.result c.from_residual.ensures.1 in
    p.1 ∙ ap Err p.2 ∙ ap (λ v. judged v c.taken_with-elements.result) (sym (c.in_err-check.was) ∙ c.check.ensures) ∙ judged_is (goal.at.returns-in_err-check c).After-taken_with-elements

pub returns : goal.returns
returns c =
    ap (λ v. judged v c.taken_with-elements.result) (sym (c.in_ok-check.was) ∙ c.check.ensures) ∙ judged_is (goal.at.returns c).After-taken_with-elements
