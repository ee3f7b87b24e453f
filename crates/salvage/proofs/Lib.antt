pub mod Written
pub mod Starts
pub mod Cuts
