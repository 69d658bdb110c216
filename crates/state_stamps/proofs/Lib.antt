mod Moving
pub mod OneIndex
mod Orders
mod Places
mod Putting
mod Removing
mod Rooms
