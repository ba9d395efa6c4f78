pub mod Growing
pub mod AnyObject
pub mod Remaining
pub mod Purses
pub mod Striking
pub mod Lone
