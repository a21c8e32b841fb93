pub mod Capturing
pub mod Cuts
pub mod Forgetting
pub mod LastTicks
pub mod Newest
pub mod Passing
pub mod Slices
