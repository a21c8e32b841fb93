pub mod History
pub mod Choice
pub mod ChoiceLaws
pub mod Answers
pub mod Candidates
pub mod Standing
