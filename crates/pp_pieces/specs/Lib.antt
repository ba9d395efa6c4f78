pub mod Pieces
pub mod Claims
pub mod Counts
pub mod Left
