pub mod Steps
pub mod Purses
