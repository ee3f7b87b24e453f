pub mod Table
pub mod Finding
pub mod Putting
pub mod Part
pub mod Contract
pub mod Theorems
