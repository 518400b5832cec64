pub mod View
pub mod Steps
pub mod Gathers
pub mod Took
pub mod Ors
pub mod Left
