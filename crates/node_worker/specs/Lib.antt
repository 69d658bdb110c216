pub mod Addressees
pub mod Groups
pub mod Working
