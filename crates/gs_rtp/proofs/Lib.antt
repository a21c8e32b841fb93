pub mod VideoHeads
pub mod VideoReading
mod Writes
mod AudioReading
pub mod AudioUnits
