pub mod CallNotes
pub mod Kinds
pub mod Noting
pub mod Purging
pub mod Results
