pub mod Stores
pub mod RoundTrip
pub mod Slices
pub mod Words
