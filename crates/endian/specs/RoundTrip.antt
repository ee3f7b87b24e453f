-- A number's bytes say the number again, at each type. Assumes nothing.
use Rattle.std.specs.Prelude.{ℕ, ◌^◌, ◌<◌, ◌/◌, ◌%◌, ◌≡◌, ℤ, length, refl}
use Rattle.std.specs.Int.{w32, w64}
use Rattle.std.specs.Int.RustNames.{FitsSigned}
use Rattle.std.proofs.Common.{of_z, to_z, ap, ◌∙◌, arith}
use mir.Facts.{to_z-of_z, Fits-of_z}
use Rattle.endian.specs.LittleEndian.{le4, le8, bytes4, bytes8, ReadsBack}

pub back4 : (v : ℕ) → v < 4294967296 → le4 (bytes4 v) 0 ≡ v
unfolding bytes4
back4 v h = omega arith

pub back8 : (v : ℕ) → v < 18446744073709551616 → le8 (bytes8 v) 0 ≡ v
unfolding bytes8 bytes4
back8 v h =
    let low = back4 (v % 4294967296) (omega arith) in
    let high = back4 (v / 4294967296) (omega arith) in
    omega arith

pub back_i32 : (z : ℤ) → FitsSigned w32 z → to_z w32 (le4 (bytes4 (of_z w32 z)) 0) ≡ z
back_i32 z f = ap (to_z w32) (back4 (of_z w32 z) (Fits-of_z f).fits) ∙ to_z-of_z f

pub back_i64 : (z : ℤ) → FitsSigned w64 z → to_z w64 (le8 (bytes8 (of_z w64 z)) 0) ≡ z
back_i64 z f = ap (to_z w64) (back8 (of_z w64 z) (Fits-of_z f).fits) ∙ to_z-of_z f

four_long : (v : ℕ) → length (bytes4 v) ≡ 4
unfolding bytes4
four_long v = refl

eight_long : (v : ℕ) → length (bytes8 v) ≡ 8
unfolding bytes8 bytes4
eight_long v = refl

-- ---- what the trait asks of each type
pub laws_u32 : ReadsBack 4 le4 bytes4 (λ x. x < 2 ^ 32)
laws_u32 = record { size_is = four_long; read_back = back4 }

pub laws_u64 : ReadsBack 8 le8 bytes8 (λ x. x < 2 ^ 64)
laws_u64 = record { size_is = eight_long; read_back = back8 }

pub laws_i32 : ReadsBack 4 (λ s at. to_z w32 (le4 s at)) (λ x. bytes4 (of_z w32 x)) (FitsSigned w32)
laws_i32 = record { size_is = λ x. four_long (of_z w32 x); read_back = back_i32 }

pub laws_i64 : ReadsBack 8 (λ s at. to_z w64 (le8 s at)) (λ x. bytes8 (of_z w64 x)) (FitsSigned w64)
laws_i64 = record { size_is = λ x. eight_long (of_z w64 x); read_back = back_i64 }
