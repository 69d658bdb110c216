pub mod Errors
pub mod PullAnswers
pub mod PullBodies
pub mod Serving
pub mod Texts
