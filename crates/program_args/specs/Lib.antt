pub mod Arguments
pub mod Readings
pub mod Refusals
