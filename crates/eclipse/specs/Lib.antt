pub mod Dot
pub mod Shade
pub mod ShadeLaws
pub mod Elevation
pub mod Contract
