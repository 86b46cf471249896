pub mod Digits
pub mod Fields
pub mod Packs
pub mod Sets
pub mod Swizzles
pub mod Valid
pub mod Walks
