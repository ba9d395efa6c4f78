pub mod Words
pub mod Dealt
pub mod Rooms
pub mod Dealing
pub mod Closings
pub mod Marking
pub mod Taking
pub mod Noting
