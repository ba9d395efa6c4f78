pub mod Values
pub mod Indexing
pub mod Places
pub mod Standing
pub mod Verdicts
pub mod OneVerdict
pub mod EachVerdict
pub mod Completeness
