pub mod Looks
pub mod Rules
pub mod Walks
pub mod Options
pub mod Parses
