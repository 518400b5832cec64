pub mod First
pub mod Spelling
pub mod Marked
pub mod Turns
