-- Proofs about what is read.
pub mod Chains
pub mod Said
pub mod Places
pub mod Good
pub mod Sound
pub mod Given
pub mod Complete
