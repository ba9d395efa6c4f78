pub mod Beginning
pub mod Learning
pub mod Turning
pub mod Starting
