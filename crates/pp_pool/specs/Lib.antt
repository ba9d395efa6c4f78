pub mod Closed
pub mod Marks
pub mod Rooms
pub mod Taken
pub mod PurseRooms
pub mod Opened
pub mod Noted
