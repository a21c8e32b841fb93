pub mod Heads
pub mod Standing
pub mod Moving
pub mod Passing
pub mod Arrivals
