mod Examples
pub mod Spelling
pub mod Sendable
pub mod SendableReplies
pub mod SendableRequests
pub mod Steps
pub mod Replies
pub mod Lengths
