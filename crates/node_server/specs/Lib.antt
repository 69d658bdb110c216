pub mod Ending
pub mod Entering
pub mod Errands
pub mod Failing
pub mod Running
