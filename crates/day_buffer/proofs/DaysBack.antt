-- The bytes of a state say the state again. Assumes nothing.
use mathlib.Core.Path.{◌≡◌, refl}
use Prim.Native.Nat.{◌≤◌}
use native.Mathlib.Omega.{arith}
use mathlib.Core.Bool.{Bool, true, false, not}
use mathlib.Core.List.{[], ◌∷◌, ◌++◌}
use lib.Dec.{eqb}
use Rattle.endian.specs.LittleEndian.{bytes4, bytes8, words}
use Rattle.endian.proofs.RoundTrip.{back4}
use Rattle.elements.specs.Contract.{Held}
use Rattle.trailer.specs.Contract.{Bounded}
use Rattle.packets.specs.declared.Day.{Day}
use Rattle.elements_buffer.specs.Buffer.{elements_bytes}
use Rattle.buffers.specs.Answers.{counts_bytes}
use Rattle.elements_buffer.proofs.ElementsBack.{elements_back}
use Rattle.day_buffer.specs.State.{counts_in, day_of, closed_byte, day_bytes}

closed_back : (t : Bool) → not (eqb (closed_byte t) 0) ≡ t
closed_back true = refl
closed_back false = refl

-- where its elements are within their types, and its counts are those of at most 1,024 labels
pub day_back : (d : Day) → Held d.elements → Bounded d.counts → d.counts.labels ≤ 1_024 → day_of (day_bytes d) ≡ d
unfolding day_of day_bytes counts_in elements_bytes counts_bytes words bytes8 bytes4
day_back d held bounded few =
    let rest = counts_bytes d.counts ++ (closed_byte d.closed ∷ d.have ∷ []) ++ d.held in
    let c = d.counts in
    λ i. record {
      elements = elements_back d.elements rest held i;
      counts = record {
        labels = back4 c.labels (omega arith) i;
        training = back4 c.training (omega (arith, bounded.sides)) i;
        test = back4 c.test (omega (arith, bounded.sides)) i;
        dark = back4 c.dark (omega (arith, bounded.dark)) i;
        dark_test = back4 c.dark_test (omega (arith, bounded.dark_test, bounded.dark)) i;
      };
      closed = closed_back d.closed i;
      have = d.have;
      held = d.held;
    }
