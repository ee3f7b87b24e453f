-- `trailer::find_distance` meets its contract. Assumes nothing.
use mathlib.Core.Path.{◌∙◌, ap}
use mathlib.Core.List.{List}
use Prim.Native.Nat.{ℕ, ◌-◌}
use lib.ListN.{length}
use Rattle.endian.specs.LittleEndian.{le4}
use Rattle.endian.proofs.Slices.{rest_part}
use Rattle.trailer.specs.Trailer.{distance_in}
use Rattle.trailer.proofs.find_distance.Goals as goal

pub returns : goal.returns
unfolding distance_in
returns c =
    let last = c.before.before.before.args.last.now in
    c.read.ensures ∙ ap (λ (bytes : List ℕ). le4 bytes 0) (rest_part last (length last - 4))
