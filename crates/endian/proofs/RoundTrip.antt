-- A number's bytes say the number again. Assumes nothing.
pub use Rattle.endian.specs.RoundTrip.{back4, back8, back_i32, back_i64}
