pub mod Sides
pub mod Layout
pub mod Rules
pub mod Codec
