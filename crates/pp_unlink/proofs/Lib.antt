pub mod Ordered
pub mod Looking
pub mod Settling
pub mod Exchanging
pub mod Pigeons
pub mod Calm
