pub mod Walked
pub mod Causes
pub mod Turning
pub mod Exchanging
pub mod Filling
pub mod Lone
