pub mod Followers
pub mod Moments
pub mod Outlooks
pub mod Paces
pub mod Pulls
pub mod Spreads
pub mod Steps
pub mod Waits
