pub mod Grammar
pub mod Text
pub mod Runs
pub mod Jobs
pub mod Replay
pub mod Parts
pub mod View
