-- The laws of sheets.
pub mod Laws
