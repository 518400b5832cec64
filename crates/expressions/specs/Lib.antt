pub mod Numbers
pub mod Ways
pub mod Records
pub mod Fine
pub mod Derived
pub mod States
pub mod Props
