pub mod PolledWays
pub mod Certificates
pub mod Polled
pub mod Parts
pub mod Right
pub mod View
