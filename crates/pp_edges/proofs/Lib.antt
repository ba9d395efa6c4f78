pub mod Staying
pub mod Splicing
pub mod Adding
