pub mod Claims
pub mod Grounded
pub mod Question
pub mod Sheets
