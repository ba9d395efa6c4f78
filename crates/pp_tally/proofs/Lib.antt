pub mod Values
pub mod Finishes
pub mod Completeness
