pub mod Limits
pub mod Captures
pub mod Growing
pub mod Held
pub mod Histories
pub mod Lasts
pub mod Sights
