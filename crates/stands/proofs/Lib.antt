pub mod Pages
pub mod Cells
pub mod Layers
pub mod Stands
pub mod Edits
pub mod Courses
pub mod Slots
