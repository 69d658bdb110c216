pub mod Happenings
pub mod Parts
pub mod Steps
