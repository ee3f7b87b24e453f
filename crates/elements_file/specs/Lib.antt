pub mod Names
pub mod Numbers
pub mod Lines
pub mod Fields
pub mod Reading
pub mod Plain
pub mod Contract
