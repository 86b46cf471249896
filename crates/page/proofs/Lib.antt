pub mod Chunks
pub mod Declares
pub mod Rounds
pub mod Steps
pub mod Turns
pub mod Whole
