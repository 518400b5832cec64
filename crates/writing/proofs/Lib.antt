-- Lemmas of the writing crate.
pub mod Checked
pub mod Laid
pub mod Spelled
pub mod Bounded
