pub mod Tallies
pub mod Turns
pub mod Causes
pub mod Passes
pub mod Turned
pub mod Purses
pub mod Answers
