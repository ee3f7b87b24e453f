pub mod Figures
pub mod Step
pub mod Files
pub mod Contract
