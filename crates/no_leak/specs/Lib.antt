pub mod Alike
pub mod Files
pub mod AtOnce
pub mod Adding
pub mod Packets
pub mod Calls
pub mod Examples
