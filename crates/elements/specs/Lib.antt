pub mod Elements
pub mod Time
pub mod Contract
