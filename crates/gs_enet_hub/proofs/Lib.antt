pub mod Seatings
pub mod Routings
