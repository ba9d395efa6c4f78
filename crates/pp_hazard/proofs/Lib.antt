pub mod Trying
pub mod Resting
pub mod Halving
