pub mod Text
pub mod Tally
pub mod Parts
pub mod View
