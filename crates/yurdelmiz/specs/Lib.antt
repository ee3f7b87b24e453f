pub mod Calls
pub mod TailOfFile
pub mod CutDay
pub mod ScaledFiles
