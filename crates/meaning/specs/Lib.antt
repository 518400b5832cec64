pub mod Laws
pub mod Names
pub mod Tables
pub mod Functions
