pub mod Cuts
pub mod InOrder
pub mod Valid
pub mod Asked
pub mod Barred
pub mod Descent
pub mod HandedLists
pub mod Joined
mod Examples
