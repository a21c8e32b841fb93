pub mod Boxes
pub mod Acting
pub mod Listening
pub mod Standing
pub mod Turning
