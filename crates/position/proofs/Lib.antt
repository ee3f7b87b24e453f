pub mod Components
pub mod Bounds
