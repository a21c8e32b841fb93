pub mod Ups
pub mod Writings
pub mod Storing
pub mod Naming
pub mod Tellings
pub mod Standings
pub mod Asked
