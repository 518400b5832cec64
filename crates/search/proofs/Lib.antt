pub mod Walk
pub mod Filling
pub mod Deciding
pub mod AllMet
mod Looking
pub mod Finding
