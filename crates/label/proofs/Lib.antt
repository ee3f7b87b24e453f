pub mod RuleCases
pub mod ShadeCodes
pub mod Stored
pub mod ByteLists
pub mod FieldBytes
pub mod FieldRules
pub mod RoundTrip
pub mod Shifted
