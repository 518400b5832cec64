-- How a text of lines is written.
pub mod Writing
