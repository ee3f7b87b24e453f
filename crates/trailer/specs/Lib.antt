pub mod Counts
pub mod Trailer
pub mod Contract
