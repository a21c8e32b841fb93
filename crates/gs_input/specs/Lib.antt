pub mod Event
pub mod Packet
pub mod Words
pub mod Line
pub mod Pressed
pub mod Laws
pub mod Sink
