pub mod Turns
pub mod Revolution
pub mod Ellipse
pub mod Placement
pub mod ConstantMotion
pub mod Contract
