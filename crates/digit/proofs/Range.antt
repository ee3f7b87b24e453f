-- The bytes that are digits. Assumes nothing.
use mathlib.Core.Path.{◌≡◌, refl}
use mathlib.Core.Bool.{Bool, true, false, cond}
use Prim.Native.Nat.{ℕ, ◌-◌, ◌≤◌}
use native.Mathlib.Omega.{arith}
use borrow.Author.Tests.{leb-true}
use lib.Dec.{leb}
use Rattle.integer.proofs.Tests.{and_true}
use Rattle.digit.specs.Digit.{is_digit, digit_value}

pub digit_range : (byte : ℕ) → is_digit byte ≡ true → (48 ≤ byte) × (byte ≤ 57)
digit_range byte e =
    let two = and_true (leb 48 byte) (leb byte 57) e in
    (leb-true 48 byte two.0, leb-true byte 57 two.1)

pub digit_small : (byte : ℕ) → digit_value byte ≤ 9
digit_small byte = go (is_digit byte) (digit_range byte)
  where
    go : (digit : Bool) → (digit ≡ true → (48 ≤ byte) × (byte ≤ 57)) → cond digit (byte - 48) 0 ≤ 9
    go true h = let r = h refl in omega arith
    go false h = omega arith
