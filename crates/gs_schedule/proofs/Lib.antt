pub mod Examples
pub mod Flags
pub mod HeldBytes
pub mod Keywords
pub mod LineText
pub mod OutputLines
pub mod Steps
