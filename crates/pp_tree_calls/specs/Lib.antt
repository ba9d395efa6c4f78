pub mod Purses
pub mod Going
pub mod Begun
pub mod Answers
pub mod Turned
pub mod Lone
