pub mod Constants
pub mod PartTurn
pub mod Components
pub mod Bounds
