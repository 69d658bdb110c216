pub mod Letters
pub mod Tellings
