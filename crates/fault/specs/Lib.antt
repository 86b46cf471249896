pub mod Causes
pub mod Faults
pub mod Refusals
pub mod Texts
