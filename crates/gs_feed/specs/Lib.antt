pub mod Feeding
pub mod Cuts
