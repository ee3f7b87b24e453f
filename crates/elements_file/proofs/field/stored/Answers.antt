-- `elements_file::field::stored` meets its contract. Assumes nothing.
use mathlib.Core.Path.{refl}
use borrow.Author.Rules.{rules}
use borrow.Author.Tests.{eq-eqb}
use mir.Syntax.{w32, w64}
use mir.Val.{SFits}
use mir.Facts.{to_z-of_z}
use Rattle.elements_file.specs.Fields.{stored}
use Rattle.elements_file.specs.Numbers.{signed_of}
use Rattle.elements_file.proofs.Magnitudes.{fits_rate}
use Rattle.elements_file.proofs.field.stored.Goals as goal

pub overflow_cast-result-in-7 : goal.overflow_cast-result-in-7
overflow_cast-result-in-7 c = rw (to_z-of_z {w = w64} (record { sfits = c.signed.type_inv }), c.signed.ensures) (fits_rate 7 _ c.args.number refl refl c.requires (eq-eqb _ 7 c.in-7.is))

pub returns-in-7 : goal.returns-in-7
unfolding stored
returns-in-7 c =
    let held : SFits w32 (signed_of c.args.number) = fits_rate 7 _ c.args.number refl refl c.requires (eq-eqb _ 7 c.in-7.is) in
    search rules

pub overflow_cast-result-in-8 : goal.overflow_cast-result-in-8
overflow_cast-result-in-8 c = rw (to_z-of_z {w = w64} (record { sfits = c.signed-in-8.type_inv }), c.signed-in-8.ensures) (fits_rate 8 _ c.args.number refl refl c.requires (eq-eqb _ 8 c.in-8.is))

pub returns-in-8 : goal.returns-in-8
unfolding stored
returns-in-8 c =
    let held : SFits w32 (signed_of c.args.number) = fits_rate 8 _ c.args.number refl refl c.requires (eq-eqb _ 8 c.in-8.is) in
    search rules

pub overflow_cast-result-in-11 : goal.overflow_cast-result-in-11
overflow_cast-result-in-11 c = rw (to_z-of_z {w = w64} (record { sfits = c.signed-in-11.type_inv }), c.signed-in-11.ensures) (fits_rate 11 _ c.args.number refl refl c.requires (eq-eqb _ 11 c.in-11.is))

pub returns-in-11 : goal.returns-in-11
unfolding stored
returns-in-11 c =
    let held : SFits w32 (signed_of c.args.number) = fits_rate 11 _ c.args.number refl refl c.requires (eq-eqb _ 11 c.in-11.is) in
    search rules
