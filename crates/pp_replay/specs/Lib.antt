pub mod Replay
pub mod Parts
pub mod View
