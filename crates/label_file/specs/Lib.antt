pub mod File
pub mod Reading
pub mod Tail
pub mod Stored
pub mod ReaderOf16
pub mod Contract
