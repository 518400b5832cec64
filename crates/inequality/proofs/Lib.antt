pub mod Bits
pub mod Lists
pub mod Sides
pub mod Subsets
pub mod Truth
pub mod Marking
pub mod Meets
pub mod Verdict
mod Worked
