pub mod Seats
pub mod Seating
pub mod Routing
pub mod Lending
