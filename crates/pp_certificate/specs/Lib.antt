pub mod Words
pub mod Cuts
pub mod Lines
pub mod Stages
pub mod Certificates
pub mod Printed
