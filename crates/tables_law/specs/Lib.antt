-- What every grammar that is read keeps, and which texts are read.
pub mod Lawful
pub mod Source
