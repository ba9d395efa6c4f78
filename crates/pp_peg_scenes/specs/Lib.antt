pub mod Pegs
pub mod PegLists
pub mod PegLaws
pub mod Puts
