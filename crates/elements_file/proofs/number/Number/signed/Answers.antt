-- `elements_file::number::Number::signed` meets its contract. Assumes nothing.
use mathlib.Core.Path.{ap, ◌∙◌}
use native.Mathlib.Nat.{le_trans}
use native.Mathlib.Omega.{arith}
use lib.IntN.{pos}
use mir.Syntax.{w64}
use mir.Val.{to_z}
use mir.Facts.{to_z_pos, to_z-of_z}
use Rattle.std.specs.Int.{int_wrapping_neg}
use Rattle.elements_file.specs.Numbers.{magnitude_of, signed_of, largest}
use Rattle.elements_file.proofs.Magnitudes.{largest_bits, negated}
use Rattle.elements_file.proofs.number.Number.signed.Goals as goal

pub returns-then-self : goal.returns-then-self
unfolding signed_of
returns-then-self c =
    let s = c.args.self in
    let bits = to_z-of_z {w = w64} (record { sfits = c.cast_signed.type_inv }) ∙ c.cast_signed.ensures ∙ ap (to_z w64) c.magnitude-magnitude.ensures in
    let negative = c.wrapping_neg.ensures ∙ ap (int_wrapping_neg w64) bits ∙ negated (magnitude_of s) (le_trans c.requires (largest_bits 10 s.negative)) in
    rw c.if-self.true (to_z-of_z {w = w64} (record { sfits = c.wrapping_neg.type_inv }) ∙ negative)

pub overflow_cast-result : goal.overflow_cast-result
unfolding largest
overflow_cast-result c =
    let h = rw c.if-self.false at c.requires in
    record { sfits = omega arith }

pub returns-else-self : goal.returns-else-self
unfolding signed_of
returns-else-self c =
    rw c.if-self.false (to_z_pos w64 (overflow_cast-result c).sfits ∙ ap pos c.magnitude-magnitude.ensures)
