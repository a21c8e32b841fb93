pub mod History
pub mod Cells
pub mod Plays
pub mod Standings
pub mod Rule
pub mod Turns
