mod Cases
mod Copied
mod Counting
mod Lists
mod Reaching
mod Rushing
mod Stored
mod Telling
mod Tickets
mod Troubles
pub mod Waiting  -- nobody waits for ever
