pub mod Derivatives
pub mod Members
pub mod Simulation
pub mod Names
pub mod Sets
pub mod Tables
pub mod Functions
pub mod Rules
mod Examples
