pub mod TreeLaws
pub mod Edging
