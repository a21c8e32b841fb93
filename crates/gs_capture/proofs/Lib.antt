pub mod Adding
pub mod Captured
pub mod Keeping
pub mod Numbered
pub mod Reading
