pub mod Status
pub mod Faults
pub mod Call
