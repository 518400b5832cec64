pub mod Faults
pub mod Errors
pub mod Loaded
pub mod Loads
