pub mod Histories
pub mod Verdicts
pub mod Indexes
pub mod Judging
