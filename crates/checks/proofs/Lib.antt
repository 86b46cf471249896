pub mod Weights
pub mod Pages
pub mod Pairs
pub mod Parts
pub mod Seals
