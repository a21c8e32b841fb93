mod Examples
pub mod Growth
pub mod AudioGrowth
pub mod SentFrames
pub mod FrameStreams
pub mod StreamFrames
pub mod HandedSent
pub mod CameWhole
