pub mod Finishes
pub mod Unders
pub mod PlainRuns
pub mod PoolRuns
pub mod TableRuns
pub mod TreeRuns
pub mod Completeness
