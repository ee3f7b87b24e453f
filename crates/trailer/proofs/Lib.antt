pub mod Tallies
pub mod Trailers
