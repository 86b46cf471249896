pub mod Walking
pub mod Fairness
