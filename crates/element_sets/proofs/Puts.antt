-- What putting answers and leaves, case by case. Assumes nothing.
use mathlib.Core.Path.{◌≡◌, refl}
use Prim.Native.Nat.{ℕ, ◌*◌, ◌≤◌}
use native.Mathlib.Omega.{arith}
use mathlib.Core.Bool.{Bool, true, false, cond}
use mathlib.Core.List.{List, ◌++◌}
use lib.IntN.{ℤ}
use lib.ListN.{length, take, drop}
use lib.Seq.{sets}
use lib.Dec.{ltb}
use borrow.Author.Tests.{le-ltb, ltb-false}
use Rattle.refusal.specs.declared.Refusal.{Refusal}
use Rattle.refusal.specs.declared.Refusal.TheVariants.{Room}
use Rattle.elements.specs.Elements.{checked}
use Rattle.elements.specs.declared.Elements.{Elements}
use Rattle.elements_buffer.specs.Buffer.{elements_bytes}
use Rattle.element_sets.specs.Table.{row_size, is_table, before, up_to, scanned, split_at}
use Rattle.element_sets.specs.Putting.{end_with, putting_of, putting, with_set}
use Rattle.element_sets.proofs.Sound.{told, told_one, told_rows}
use Rattle.element_sets.specs.declared.table.Split.{Split}
use Rattle.std.specs.Prelude.{Err, None, Ok, Option, Result, Some}

pub put_refused : (el : Elements) (buffer : List ℕ) (size : ℕ) {r : Refusal} → checked el ≡ Err r → Err r ≡ putting el buffer size
unfolding putting
put_refused el buffer size e = rw e

module _ (el : Elements) (buffer : List ℕ) (size : ℕ) {split : Split} (e : scanned buffer size el.epoch ≡ Some split) where
  pub put_placed : checked el ≡ Ok tt → end_with split.earlier split.up_to size ≤ length buffer → Ok (end_with split.earlier split.up_to size) ≡ putting el buffer size
  unfolding putting
  put_placed passed h = rw (passed, e, le-ltb (length buffer) (end_with split.earlier split.up_to size) h)

  pub set_stored : sets buffer (row_size * split.earlier) (elements_bytes el ++ drop (row_size * split.up_to) (take size buffer)) ≡ with_set el buffer size
  unfolding with_set
  set_stored = let t = told buffer size el.epoch split.earlier split.up_to e in rw (t.earlier_is, t.later_is)

-- what the rows that a table was found to have are bounded by
pub scan_bounds : (buffer : List ℕ) (size : ℕ) (time : ℤ) (split : Split) → scanned buffer size time ≡ Some split
    → (split.earlier ≤ split.up_to) × (row_size * split.up_to ≤ size) × (size ≤ length buffer)
scan_bounds buffer size time split e =
    let t = told buffer size time split.earlier split.up_to e in
    ((told_one buffer size time split.earlier split.up_to t).order, told_rows buffer size time split.earlier split.up_to t, t.held)

-- ---- what an answer tells

pub record PutSays (el : Elements) (buffer : List ℕ) (size end : ℕ) : Type 0 where
  pub passed : checked el ≡ Ok tt
  pub held : size ≤ length buffer
  pub table : is_table (take size buffer) ≡ true
  pub end_is : end_with (before (take size buffer) el.epoch) (up_to (take size buffer) el.epoch) size ≡ end
  pub room : end ≤ length buffer

pub put_says : (el : Elements) (buffer : List ℕ) (size end : ℕ) → putting el buffer size ≡ Ok end → PutSays el buffer size end
unfolding putting
put_says el buffer size end e = by (checked el) (scanned buffer size el.epoch) refl refl e
  where
    fits : (a b : ℕ) → checked el ≡ Ok tt → scanned buffer size el.epoch ≡ Some (split_at a b) → (t : Bool) → ltb (length buffer) (end_with a b size) ≡ t
        → cond t (Err Room) (Ok (end_with a b size)) ≡ Ok end → PutSays el buffer size end
    fits a b p s true l e = let z : ◌≡◌ {A = ℕ} 0 1 = cc in absurd (omega arith)
    fits a b p s false l e =
        let t = told buffer size el.epoch a b s in
        let ends : end_with a b size ≡ end = cc in
        record { passed = p; held = t.held; table = t.table; end_is = rw (t.earlier_is, t.later_is) ends; room = omega (arith, ltb-false (length buffer) (end_with a b size) l) }

    by : (v : Result Unit Refusal) (s : Option Split) → checked el ≡ v → scanned buffer size el.epoch ≡ s → putting_of v s size (length buffer) ≡ Ok end → PutSays el buffer size end
    by (Err r) s p q e = let z : ◌≡◌ {A = ℕ} 0 1 = cc in absurd (omega arith)
    by (Ok tt) None p q e = let z : ◌≡◌ {A = ℕ} 0 1 = cc in absurd (omega arith)
    by (Ok tt) (Some split) p q e = fits split.earlier split.up_to p q (ltb (length buffer) (end_with split.earlier split.up_to size)) refl e
