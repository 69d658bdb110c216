mod Between
mod Brought
mod Choices
pub mod Counts
mod Entered
mod FirstPause
mod Hanging
mod Latest
mod Lists
mod Named
mod Once
mod OnceDue
mod Puts
mod Resumed
mod Places
mod Tested
mod Waiting
