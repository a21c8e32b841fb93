mod Examples
pub mod Counted
pub mod Sent
pub mod Ready
pub mod Restored
pub mod Rooms
pub mod Counting
pub mod Taken
pub mod PlayedShards
pub mod PlayedSent
pub mod PlayedRise
