pub mod Staff
