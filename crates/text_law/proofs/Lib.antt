-- What is read is what was written.
pub mod Cases
pub mod Cut
pub mod Number
