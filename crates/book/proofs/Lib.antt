pub mod Enter
pub mod Feeding
