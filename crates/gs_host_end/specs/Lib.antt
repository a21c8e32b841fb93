pub mod Counts
pub mod Boxes
pub mod Heard
pub mod Sending
pub mod Standing
pub mod Outcomes
