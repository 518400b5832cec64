pub mod Refutes
pub mod Marks
pub mod Steps
