pub mod Stretches
pub mod Purses
