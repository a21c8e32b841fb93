pub mod Bytes
pub mod Lines
pub mod Message
pub mod Reading
pub mod Laws
pub mod Writing
