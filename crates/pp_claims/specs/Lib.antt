pub mod Shares
pub mod Rest
pub mod Claimed
