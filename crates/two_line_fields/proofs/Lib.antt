pub mod Digits
pub mod Layouts
pub mod Values
pub mod Calendars
pub mod Published
