mod Directed
mod Queries
pub mod Workings
