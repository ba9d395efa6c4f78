pub mod Run
pub mod Jobs
