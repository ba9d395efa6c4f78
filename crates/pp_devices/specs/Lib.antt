pub mod Devices
pub mod Told
pub mod Ways
