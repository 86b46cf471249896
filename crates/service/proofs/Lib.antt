pub mod Cursors
pub mod Holds
pub mod Opening
pub mod Reach
pub mod Doing
pub mod Telling
pub mod Stepping
