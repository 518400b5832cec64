pub mod Ends
pub mod Answered
