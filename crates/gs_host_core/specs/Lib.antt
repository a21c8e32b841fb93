pub mod Errors
pub mod Acts
pub mod ActOf
pub mod Units
pub mod Puts
pub mod Sounds
pub mod Hosting
pub mod Turning
