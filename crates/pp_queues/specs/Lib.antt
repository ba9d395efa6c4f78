pub mod Queue
pub mod Lines
pub mod Queues
pub mod Turns
pub mod Contents
pub mod Losses
pub mod Calls
