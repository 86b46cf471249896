pub mod Answers
pub mod Turns
pub mod Picks
pub mod Runs
