-- What the writing crate's contracts say.
pub mod Texts
pub mod Checks
pub mod Wrote
pub mod Pages
