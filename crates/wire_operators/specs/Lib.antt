pub mod Doors
pub mod Filters
pub mod Json
pub mod Records
pub mod Serving
pub mod Surveys
pub mod Wanted
