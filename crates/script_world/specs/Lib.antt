pub mod Headline
pub mod Machines
pub mod Restarts
pub mod Worlds
