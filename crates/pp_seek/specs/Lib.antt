pub mod Trails
pub mod Keeping
pub mod Seeking
pub mod Lone
