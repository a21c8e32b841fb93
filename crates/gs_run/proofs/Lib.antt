mod Examples
mod WholeRuns
mod ControlRuns
pub mod Calm
pub mod TwoSides
pub mod Acts
pub mod Uses
pub mod Heard
pub mod Asking
pub mod Standing
pub mod Deeds
pub mod ClientDeeds
pub mod Openings
pub mod SentSound
pub mod Runs
pub mod Reporting
pub mod PartLines
pub mod StreamLines
pub mod StateLines
pub mod OneRun
pub mod SideDeliveries
pub mod PartDeliveries
pub mod Pumps
pub mod StepsDecided
pub mod SomeRun
pub mod InputLines
pub mod DoneRuns
pub mod Captures
pub mod OwnLines
pub mod HostLines
pub mod OneParts
pub mod ToldEvents
pub mod InputActs
pub mod ProperDeeds
pub mod UserEvents
pub mod HoldingRuns
