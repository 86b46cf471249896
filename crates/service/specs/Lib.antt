pub mod Graphing
pub mod Plans
pub mod Serving
pub mod Calls
pub mod Inner
