pub mod LittleEndian
pub mod RoundTrip
