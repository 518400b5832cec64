-- Lemmas of the records crate.
pub mod Chained
pub mod Kept
pub mod Sound
