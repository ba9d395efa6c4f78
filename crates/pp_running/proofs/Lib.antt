pub mod Lists
pub mod Runs
pub mod JobsDone
pub mod RunJobs
pub mod Numbers
pub mod Callers
