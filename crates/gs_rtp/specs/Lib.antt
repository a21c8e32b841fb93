pub mod Limits
pub mod Settings
pub mod Video
pub mod Stream
pub mod Audio
pub mod AudioDatagrams
