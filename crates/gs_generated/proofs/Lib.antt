pub mod Spelling
pub mod Moving
pub mod Parting
pub mod Ending
