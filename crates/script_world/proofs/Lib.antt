mod Acting
pub mod Agreeing
mod Belows
pub mod Converging
mod Delivering
pub mod Determined
mod FramesNotTaken
mod GrowingHistories
mod Happening
pub mod Moving
pub mod OneReplicaChanged
pub mod Parting
mod Restarting
mod Starting
pub mod StatusesRise
mod WorldsStand
