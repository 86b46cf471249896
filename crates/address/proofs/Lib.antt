pub mod Counting
pub mod Changes
pub mod Releasing
pub mod Awarding
