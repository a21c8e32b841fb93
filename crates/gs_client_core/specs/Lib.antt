pub mod Given
pub mod Standing
pub mod Steps
pub mod Owed
