-- What the records crate's contracts say.
pub mod Faults
pub mod Chains
pub mod Places
pub mod Lines
pub mod Reading
pub mod Texts
