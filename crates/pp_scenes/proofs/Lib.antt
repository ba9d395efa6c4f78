pub mod Scenes
pub mod Learning
