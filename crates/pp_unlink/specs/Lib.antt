pub mod Invalidation
pub mod Unlinking
