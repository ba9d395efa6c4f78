pub mod Cutting
pub mod Callers
pub mod Growing
pub mod Printing
