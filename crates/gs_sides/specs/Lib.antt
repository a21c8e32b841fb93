pub mod Known
pub mod Openness
pub mod Standing
pub mod Outcomes
pub mod Steps
