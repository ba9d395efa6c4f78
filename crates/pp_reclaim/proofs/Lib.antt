pub mod Reading
pub mod Owned
pub mod Staying
pub mod Sweeping
pub mod Resting
pub mod Flushing
pub mod Reclaimed
