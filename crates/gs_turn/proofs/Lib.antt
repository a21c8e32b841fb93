mod Examples
pub mod Seats
pub mod Keeping
pub mod Draws
pub mod Looks
pub mod Own
pub mod Counts
pub mod Gives
pub mod Arrives
pub mod Splitting
pub mod Turning
pub mod Joining
pub mod Settling
pub mod Closing
pub mod Making
