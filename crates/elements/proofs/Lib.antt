pub mod Accepted
pub mod Fast
