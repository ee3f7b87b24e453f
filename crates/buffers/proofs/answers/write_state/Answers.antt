-- `buffers::answers::write_state` meets its contract. Assumes nothing.
use mathlib.Core.Path.{◌≡◌, refl, ◌∙◌}
use mathlib.Core.List.{[], ◌∷◌, ◌++◌}
use native.Mathlib.Omega.{arith}
use lib.IntN.{nat_abs}
use mir.Syntax.{w32, w64}
use mir.Val.{SFits, of_z}
use mir.Facts.{to_z-of_z}
use Rattle.endian.specs.LittleEndian.{bytes4, bytes8, words}
use Rattle.endian.proofs.Stores.{then, over_all}
use Rattle.buffers.specs.Answers.{position_bytes, state_bytes}
use borrow.Author.Rules.{rules}
use Rattle.buffers.proofs.answers.write_state.Goals as goal
use Rattle.buffers.proofs.answers.write_state.Goals.{After-magnitude, Start}

fits : (s : Start) → let st = s.args.state in SFits w32 st.revolution × SFits w64 st.radius
fits s = (search rules, search rules)

magnitude_is : (c : After-magnitude) → c.magnitude.result ≡ nat_abs c.args.state.radius
magnitude_is c = rw (to_z-of_z (fits (goal.at.After-magnitude c).Start).1) at c.magnitude.ensures

pub overflow_cast-numbers : goal.overflow_cast-numbers
overflow_cast-numbers c = record { fits = omega (arith, magnitude_is c, c.requires.1) }

pub returns : goal.returns
unfolding state_bytes position_bytes words bytes8 bytes4
returns c =
    let l = c.args.answer.now in
    let st = c.args.state in
    let numbers = words (of_z w32 st.revolution ∷ st.anomaly.angle ∷ st.anomaly.halvings ∷ nat_abs st.radius ∷ []) in
    let one = rw (rw (to_z-of_z (fits (goal.at.returns c).Start).0) at c.bits_of_i32.ensures, magnitude_is (goal.at.returns c).After-magnitude) at c.write_words.ensures in
    let two = then l _ _ 0 16 numbers (position_bytes st.position) refl one c.write_position.ensures in
    let three = then l _ _ 0 40 (numbers ++ position_bytes st.position) (bytes4 st.node) refl two c.write.ensures in
    then l _ _ 0 44 (numbers ++ position_bytes st.position ++ bytes4 st.node) (position_bytes c.args.earth_fixed) refl three c.write_position-2.ensures
    ∙ over_all l (state_bytes st c.args.earth_fixed) c.requires.0
