pub mod Included
pub mod Excluded
