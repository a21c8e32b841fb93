pub mod Standing
pub mod Stepping
pub mod Trial
pub mod Stopping
pub mod Running
