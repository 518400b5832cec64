-- The grammar tables: how a text of lines gives them, or which fault at which line.
pub mod Chain
pub mod Words
pub mod Shapes
pub mod Checks
pub mod Plain
pub mod Judge
pub mod Read
