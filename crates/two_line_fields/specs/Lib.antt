pub mod Layout
pub mod Decimals
pub mod Calendar
pub mod Fields
pub mod Contract
