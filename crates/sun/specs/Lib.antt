pub mod Sun
pub mod Contract
