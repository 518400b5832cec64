-- Proofs of the laws of sheets.
pub mod Numbers
pub mod Pieced
pub mod Bits
pub mod Forward
pub mod Tight
pub mod Readback
pub mod Backward
pub mod Rewritten
