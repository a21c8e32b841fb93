mod Examples
pub mod Captures
pub mod Losses
pub mod Passes
pub mod Sendings
pub mod Splits
pub mod Texts
