-- `elements_buffer::write_elements` meets its contract. Assumes nothing.
use mathlib.Core.Path.{refl}
use mathlib.Core.List.{[], ◌∷◌}
use mir.Syntax.{w32, w64}
use mir.Val.{SFits, of_z}
use mir.Facts.{to_z-of_z}
use borrow.Author.Rules.{rules}
use Rattle.endian.specs.LittleEndian.{bytes4, bytes8, words}
use Rattle.endian.proofs.Stores.{then}
use Rattle.elements_buffer.specs.Buffer.{elements_bytes}
use Rattle.elements_buffer.proofs.write_elements.Goals as goal

pub returns : goal.returns
unfolding elements_bytes words bytes8 bytes4
returns c =
    let el = c.args.elements in
    let epoch : SFits w64 el.epoch = search rules in
    let node_rate : SFits w32 el.node_rate = search rules in
    let perigee_rate : SFits w32 el.perigee_rate = search rules in
    let derivative : SFits w32 el.half_mean_motion_derivative = search rules in
    let numbers = words (el.eccentricity ∷ el.semi_major_axis ∷ el.inclination ∷ el.node ∷ el.argument_of_perigee ∷ el.mean_anomaly ∷ el.mean_motion ∷ of_z w32 el.node_rate ∷ of_z w32 el.perigee_rate ∷ el.epoch_revolution ∷ of_z w32 el.half_mean_motion_derivative ∷ []) in
    let rest = rw (rw (to_z-of_z node_rate) at c.bits_of_i32.ensures, rw (to_z-of_z perigee_rate) at c.bits_of_i32-2.ensures, rw (to_z-of_z derivative) at c.bits_of_i32-3.ensures) at c.write_words.ensures in
    then c.args.buffer.now _ _ c.args.at 8 (bytes8 (of_z w64 el.epoch)) numbers refl (rw (to_z-of_z epoch) at c.write.ensures) rest
