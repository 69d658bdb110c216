pub mod FrontParts
pub mod Fronts
pub mod Ids
pub mod Names
pub mod States
