pub mod Starting
pub mod Beginning
pub mod Learning
pub mod Turning
