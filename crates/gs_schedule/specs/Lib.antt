pub mod Keyword
pub mod Step
pub mod LinesError
pub mod Lines
pub mod Output
pub mod Status
pub mod Laws
