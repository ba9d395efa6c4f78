pub mod Places
pub mod Certified
pub mod Held
