pub mod Rooms
pub mod Stops
