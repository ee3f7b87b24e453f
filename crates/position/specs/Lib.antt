pub mod Box
pub mod Turn
pub mod Contract
