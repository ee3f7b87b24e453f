pub mod Record
pub mod Records
pub mod Day
pub mod Adding
pub mod Continuing
pub mod Order
pub mod Contract
pub mod ConstantMotion
