pub mod StoredDays
pub mod DaysBack
