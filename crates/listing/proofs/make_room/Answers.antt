-- `listing::make_room` meets its contract. Assumes nothing.
use borrow.Author.Tests.{le-ltb, lt-ltb}
use mathlib.Core.Path.{◌≡◌, sym, ◌∙◌, ap}
use mathlib.Core.Bool.{Bool, cond}
use mathlib.Core.List.{List, ◌++◌}
use Prim.Native.Nat.{ℕ, ◌*◌, ◌-◌, ◌<◌}
use native.Mathlib.Omega.{arith}
use lib.ListN.{length, take, drop, length-drop}
use lib.Seq.{take_all, take_at, length-take-le}
use Rattle.endian.proofs.Slices.{rest_part}
use Rattle.trailer.specs.Trailer.{trailer_size}
use Rattle.label_file.specs.File.{longest}
use Rattle.listing.specs.Contract.{RoomMade}
use Rattle.listing.proofs.make_room.Goals as goal

-- ---- the window is not full, or its second half is copied to its start by way of another list

room_left : (window : List ℕ) (end : ℕ) → end < 2 * longest → RoomMade window end window end
room_left window end h =
    let none : 0 ≡ end - end = omega arith in
    record { room = h; size_is = sym (ap (λ (t : Bool). cond t end longest) (lt-ltb end (2 * longest) h)); kept = ap (λ (k : ℕ). drop k (take end window)) none }

half_kept : (window half copied : List ℕ) (end : ℕ) → length window ≡ 2 * longest → end ≡ 2 * longest
    → half ≡ take (length window - longest) (drop longest window) → copied ≡ half → RoomMade window end (copied ++ drop longest window) longest
unfolding longest trailer_size
half_kept window half copied end n full e f =
    let second = drop longest window in
    let start : longest ≡ end - longest = omega arith in
    record {
      room = omega arith;
      size_is = sym (ap (λ (t : Bool). cond t end longest) (le-ltb end (2 * longest) (omega arith)));
      kept = ap (λ (l : List ℕ). take longest (l ++ second)) (f ∙ e ∙ rest_part window longest)
          ∙ take_at second second longest (omega (arith, length-drop longest window))
          ∙ (λ i. drop (start i) (sym (take_all end window (omega arith)) i));
    }

-- ---- the goals

pub returns-then-end-window : goal.returns-then-end-window
returns-then-end-window c = room_left _ _ (omega arith)

pub slice_bounds-copy_from_slice-end-4 : goal.slice_bounds-copy_from_slice-end-4
unfolding longest trailer_size
slice_bounds-copy_from_slice-end-4 c = sym (length-take-le _ c.args.window.now (omega arith))

pub copy_from_slice-requires-2 : goal.copy_from_slice-requires-2
unfolding longest trailer_size
copy_from_slice-requires-2 c = omega (arith, length-take-le 24_600 c.args.window.now (omega arith), c.copy_from_slice.ensures.len)

pub returns : goal.returns
unfolding longest trailer_size
returns c = half_kept c.args.window.now _ _ c.args.end c.requires.0 (omega arith) c.copy_from_slice.ensures.after c.copy_from_slice-2.ensures.after
