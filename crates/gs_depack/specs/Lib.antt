pub mod ImageHead
pub mod Depack
pub mod Steps
pub mod Laws
