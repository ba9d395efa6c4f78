pub mod Printed
pub mod Causes
