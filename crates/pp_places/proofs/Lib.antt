pub mod Entries
pub mod Listed
pub mod Callers
pub mod Texts
pub mod Certified
pub mod Runs
pub mod Holding
pub mod Fits
