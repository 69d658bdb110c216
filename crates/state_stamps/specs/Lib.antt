pub mod Entries
pub mod Indexes
