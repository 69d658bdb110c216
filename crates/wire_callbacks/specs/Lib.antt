pub mod Answers
pub mod CallDuties
pub mod CallRequests
pub mod CallWords
pub mod Errands
pub mod HeardCommands
pub mod OneCall
pub mod ViewDuties
