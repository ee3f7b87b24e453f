pub mod Angle
pub mod Sine
pub mod ExactSine
pub mod Contract
pub mod Sines
