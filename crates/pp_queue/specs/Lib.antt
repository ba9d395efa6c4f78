pub mod Steps
pub mod Standing
pub mod Calling
pub mod Answers
pub mod Passes
pub mod Closings
