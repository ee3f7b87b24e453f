pub mod AdvanceAndDrift
pub mod Revolution
pub mod Distances
pub mod Placements
pub mod ConstantMotion
