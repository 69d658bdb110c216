pub mod Keys
pub mod StatusGroups
