pub mod Bound
pub mod Division
pub mod Root
pub mod Contract
