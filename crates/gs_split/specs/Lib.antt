pub mod Plans
pub mod Places
pub mod Splitting
pub mod Loaded
