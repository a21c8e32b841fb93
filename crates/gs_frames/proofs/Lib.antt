mod Examples
mod WindowExamples
mod VerdictExamples
pub mod Judged
pub mod Taken
pub mod Counting
pub mod Images
pub mod Plans
pub mod PlanLimits
pub mod ShardsReceived
pub mod ShardForms
pub mod FramesReceived
pub mod Fills
pub mod CompleteStays
pub mod SettledUp
pub mod HandedThrough
pub mod HandedGrows
pub mod AsksGrow
pub mod Verdicts
pub mod WholeFrames
pub mod Parts
pub mod Narrowed
pub mod KeptAtFirst
pub mod HandedNext
pub mod SentBlocks
pub mod WholeBlocks
pub mod Members
pub mod CompleteSent
pub mod EnoughCame
pub mod OneBlock
