pub mod Hands
pub mod Told
pub mod Ready
pub mod Units
pub mod Went
pub mod Gone
