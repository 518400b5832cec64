pub mod Lists
pub mod Fits
pub mod Tables
pub mod Marks
pub mod Reached
pub mod Verdicts
