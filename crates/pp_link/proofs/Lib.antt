pub mod Packing
pub mod LayoutLaws
pub mod Stores
