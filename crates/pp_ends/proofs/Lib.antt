pub mod Closing
pub mod Opening
pub mod Learning
pub mod Telling
