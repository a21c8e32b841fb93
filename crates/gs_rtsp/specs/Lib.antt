pub mod Fields
pub mod Reply
pub mod Asking
pub mod Verdicts
pub mod Standing
