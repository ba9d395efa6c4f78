pub mod Finishes
pub mod Completeness
pub mod Right
pub mod Words
