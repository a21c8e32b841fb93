pub mod Numbers
pub mod Parts
pub mod Named
pub mod Turns
pub mod Ends
pub mod Pumps
pub mod Videos
pub mod Opened
