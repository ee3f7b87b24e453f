pub mod Bounds
pub mod Cases
pub mod Umbra
pub mod SolarElevation
