pub mod Choices
pub mod Bytes
pub mod Magnitudes
pub mod Consistency
pub mod Bytewise
pub mod PlainFiles
