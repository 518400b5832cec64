-- Lemmas of the text crate.
mod Cuts
