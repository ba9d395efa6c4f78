pub mod PrintedTexts
pub mod Finishes
pub mod Counts
pub mod Causes
pub mod Given
