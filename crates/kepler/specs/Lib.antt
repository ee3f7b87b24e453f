pub mod Kepler
pub mod Bracket
pub mod Demand
pub mod Solution
pub mod Contract
