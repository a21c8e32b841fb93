pub mod Video
pub mod Audio
pub mod Paired
pub mod StreamLaws
pub mod HandedLaws
