-- The size of a time in range. Assumes nothing.
use mathlib.Core.Path.{◌≡◌}
use mathlib.Core.Bool.{true}
use Prim.Native.Nat.{◌≤◌}
use native.Mathlib.Omega.{arith}
use lib.Dec.{leb}
use lib.IntN.{ℤ, pos, negsuc, nat_abs}
use borrow.Author.Tests.{leb-true}
use Rattle.integer.proofs.Tests.{and_true}
use Rattle.time.specs.Range.{in_range}

pub in_range_size : (time : ℤ) → in_range time ≡ true → nat_abs time ≤ 3_476_476_799
unfolding in_range
in_range_size (pos n) e = leb-true n 3_476_476_799 e
in_range_size (negsuc n) e = omega (arith, leb-true n 2_834_956_799 (and_true (leb n 2_834_956_799) true e).0)
