-- `listing::main` meets its contract. Assumes nothing.
use mathlib.Core.Path.{sym, subst}
use Prim.Native.Nat.{◌*◌, ◌≤◌}
use lib.Seq.{length-take-le}
use native.Mathlib.Omega.{arith}
use Rattle.trailer.specs.Trailer.{trailer_size}
use Rattle.label_file.specs.File.{longest}
use Rattle.listing.specs.Contract.{EndsWithin}
use Rattle.listing.proofs.main.Goals as goal
use Rattle.listing.proofs.main.Goals.{In-Some}

ends_within : (c : In-Some) → c.in-Some.end ≤ 2 * longest
ends_within c = subst (EndsWithin (2 * longest)) c.in-Some.is c.read_input-input.ensures

pub slice_bounds-window-end : goal.slice_bounds-window-end
unfolding longest trailer_size
slice_bounds-window-end c = omega (arith, ends_within (goal.at.slice_bounds-window-end c).In-Some)

pub slice_bounds-list-end : goal.slice_bounds-list-end
unfolding longest trailer_size
slice_bounds-list-end c = sym (length-take-le _ _ (omega (arith, ends_within (goal.at.slice_bounds-list-end c).In-Some)))
