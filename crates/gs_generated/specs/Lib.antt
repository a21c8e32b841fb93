pub mod Parting
pub mod Remaining
