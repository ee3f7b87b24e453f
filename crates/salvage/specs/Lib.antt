pub mod Salvage
pub mod CutFile
pub mod Start
pub mod Contract
