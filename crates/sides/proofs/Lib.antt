pub mod Some
pub mod Subset
pub mod Crowded
pub mod Failing
pub mod Gathering
pub mod Sided
pub mod Taking
pub mod Walking
