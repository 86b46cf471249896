pub mod Cells
pub mod Descriptors
pub mod Form
pub mod Links
pub mod Parts
pub mod Types
pub mod Walks
