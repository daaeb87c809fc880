pub mod EventTaken
pub mod Taking
