pub mod Protection
pub mod Reading
