-- How large a number an element holds, and that its type holds it. Assumes nothing.
use mathlib.Core.Path.{◌≡◌, refl, ◌∙◌}
use mathlib.Core.Bool.{Bool, true, false, cond}
use Prim.Native.Nat.{ℕ, zero, suc, ◌-◌, ◌^◌, ◌≤◌, ◌<◌, zero-le}
use native.Mathlib.Nat.{le_trans, le_of_suc-le-suc}
use native.Mathlib.Omega.{arith}
use borrow.Author.Tests.{eqb-true, ltb-true, ltb-false}
use lib.Dec.{eqb, ltb, lit≤}
use lib.IntN.{pos, neg_ℤ}
use lib.Signed.{mag}
use mir.Syntax.{Width, w32, w64}
use mir.Val.{hbits, SFits, to_z}
use Rattle.std.specs.Int.{int_wrapping_neg}
use Rattle.std.proofs.lemmas.Int.{ints, wrapping_neg_is, int_wrap_fits}
use Rattle.elements_file.specs.Numbers.{largest, magnitude_of, is_rate, is_epoch, signed_of}
use Rattle.elements_file.specs.declared.number.Number.{Number}

-- the epoch holds the most, and no element less than a digit
abbrev largest_of : Bool → Bool → Bool → ℕ
largest_of epoch rate negative =
    cond epoch (cond negative (2 ^ 63) (2 ^ 63 - 1)) (cond rate (cond negative (2 ^ 31) (2 ^ 31 - 1)) (2 ^ 32 - 1))

most : (epoch rate negative : Bool) → largest_of epoch rate negative ≤ largest_of true false negative
most true rate true = lit≤ tt
most true rate false = lit≤ tt
most false true true = lit≤ tt
most false true false = lit≤ tt
most false false true = lit≤ tt
most false false false = lit≤ tt

least : (epoch rate negative : Bool) → 9 ≤ largest_of epoch rate negative
least true rate true = lit≤ tt
least true rate false = lit≤ tt
least false true true = lit≤ tt
least false true false = lit≤ tt
least false false negative = lit≤ tt

pub largest_epoch : (element : ℕ) (negative : Bool) → largest element negative ≤ largest 10 negative
unfolding largest
largest_epoch element negative = most (is_epoch element) (is_rate element) negative

pub largest_digit : (element : ℕ) (negative : Bool) → 9 ≤ largest element negative
unfolding largest
largest_digit element negative = least (is_epoch element) (is_rate element) negative

pub largest_bits : (element : ℕ) (negative : Bool) → largest element negative ≤ 2 ^ 63
unfolding largest
largest_bits element true = largest_epoch element true
largest_bits element false = le_trans (largest_epoch element false) (lit≤ tt)

-- ---- by the element's number k
pub fits_unsigned : (k element m : ℕ) (negative : Bool) → is_epoch k ≡ false → is_rate k ≡ false → m ≤ largest element negative → eqb element k ≡ true → m < 2 ^ 32
unfolding largest
fits_unsigned k element m negative e r h t =
    let h' = rw (eqb-true element k t, e, r) at h in
    omega arith

-- the magnitude with its sign, of which the lowest has no positive
mag_signed : (b m : ℕ) (negative : Bool) → m ≤ cond negative (suc b) b → mag (cond negative (neg_ℤ (pos m)) (pos m)) ≤ b
mag_signed b m false h = h
mag_signed b zero true h = zero-le
mag_signed b (suc m) true h = le_of_suc-le-suc h

fits_signed : (w : Width) (b : ℕ) (n : Number) → 2 ^ hbits w ≡ suc b → magnitude_of n ≤ cond n.negative (suc b) b → SFits w (signed_of n)
unfolding signed_of
fits_signed w b n half h =
    let h' = mag_signed b (magnitude_of n) n.negative h in
    record { sfits = omega arith }

pub fits_rate : (k element : ℕ) (n : Number) → is_epoch k ≡ false → is_rate k ≡ true → magnitude_of n ≤ largest element n.negative → eqb element k ≡ true → SFits w32 (signed_of n)
unfolding largest
fits_rate k element n e r h t = fits_signed w32 (2 ^ 31 - 1) n refl (rw (eqb-true element k t, e, r) at h)

pub fits_epoch : (element : ℕ) (n : Number) → magnitude_of n ≤ largest element n.negative → eqb element 10 ≡ true → SFits w64 (signed_of n)
unfolding largest
fits_epoch element n h t = fits_signed w64 (2 ^ 63 - 1) n refl (rw (eqb-true element 10 t) at h)

-- the magnitude's bits, with which the lowest number has its own, negated
pub negated : (m : ℕ) → m ≤ 2 ^ 63 → int_wrapping_neg w64 (to_z w64 m) ≡ neg_ℤ (pos m)
negated m h = go (ltb m (2 ^ 63)) (ltb-true m (2 ^ 63)) (ltb-false m (2 ^ 63))
  where
    go : (t : Bool) → (t ≡ true → m < 2 ^ 63) → (t ≡ false → 2 ^ 63 ≤ m) → int_wrapping_neg w64 (to_z w64 m) ≡ neg_ℤ (pos m)
    go true y n =
        let l = y refl in
        let held : to_z w64 m ≡ pos m = omega (arith, ints) in
        let f : SFits w64 (pos m) = omega (arith, ints) in
        let g : SFits w64 (neg_ℤ (pos m)) = omega (arith, ints) in
        rw held (wrapping_neg_is w64 (pos m) f ∙ int_wrap_fits w64 (neg_ℤ (pos m)) g)
    go false y n =
        let l = n refl in
        let e : m ≡ 2 ^ 63 = omega arith in
        rw e refl
