pub mod LineFeeds
pub mod Puts
pub mod Refusals
