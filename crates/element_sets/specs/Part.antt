-- A part of lent bytes. Assumes nothing.
use Rattle.std.specs.Prelude.{◌≡◌, ℕ, ◌+◌, List, take, drop}
use Rattle.std.specs.Borrow.{Bor}

-- r is the part of x of n elements from index `at` on: it holds those, and lies there
pub record PartOf (x : Bor (List ℕ)) (at n : ℕ) (r : Bor (List ℕ)) : Type 0 where
  pub holds : r.now ≡ take n (drop at x.now)
  pub block : r.ref_ptr.0 ≡ x.ref_ptr.0
  pub place : r.ref_ptr.1 ≡ x.ref_ptr.1 + at
