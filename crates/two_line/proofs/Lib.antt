pub mod BadFields
pub mod Checksums
pub mod Epochs
pub mod Readings
pub mod TakenElements
pub mod Example
