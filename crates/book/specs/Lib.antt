pub mod Place
pub mod Feeding
