pub mod Pulling
pub mod Putting
