pub mod Layer
pub mod Laws
pub mod Calls
pub mod Seals
