pub mod Graphs
pub mod Steps
pub mod Shown
pub mod Edits
pub mod Openings
pub mod Laws
pub mod Standing
