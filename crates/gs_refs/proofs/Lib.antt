mod Examples
pub mod Choices
pub mod Lookups
pub mod Legal
pub mod Greatest
pub mod ValidAbove
pub mod Walking
pub mod Standings
