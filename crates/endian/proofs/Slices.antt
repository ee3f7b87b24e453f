-- Parts of a list, as code takes them. Assumes nothing.
use mathlib.Core.Path.{◌≡◌, ap}
use Prim.Native.Nat.{ℕ, ◌-◌}
use native.Mathlib.Omega.{arith}
use mathlib.Core.List.{List}
use lib.ListN.{length, take, drop, length-drop}
use lib.Seq.{take_all}

-- from an index on
pub rest_part : (xs : List ℕ) (a : ℕ) → take (length xs - a) (drop a xs) ≡ drop a xs
rest_part xs a = take_all (length xs - a) (drop a xs) (omega (arith, length-drop a xs))

-- up to an index
pub start_part : (xs : List ℕ) (n : ℕ) → take (n - 0) (drop 0 xs) ≡ take n xs
start_part xs n = ap (λ (k : ℕ). take k xs) (sub_zero n)
  where
    sub_zero : (n : ℕ) → n - 0 ≡ n
    sub_zero n = omega arith
