pub mod Trying
pub mod Running
pub mod Showing
