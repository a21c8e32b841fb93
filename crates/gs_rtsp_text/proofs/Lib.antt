pub mod Parts
pub mod Tokens
pub mod Numbers
pub mod HeaderLines
pub mod FirstLines
pub mod Rest
mod Within
pub mod Heads
mod Counting
pub mod Decided
pub mod Scans
pub mod Answered
mod Started
pub mod Written
