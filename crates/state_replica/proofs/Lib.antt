mod Absorbed
mod EmptyHomes
mod Homes
mod Indexed
mod JudgedAtHome
pub mod Paging
pub mod PreparedReplies
pub mod Rooms
mod SameHomes
pub mod SettledDues
mod Tellings
