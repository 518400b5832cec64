pub mod Shows
pub mod Grounds
pub mod Gaps
pub mod Chains
