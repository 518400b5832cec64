-- What the text crate's contracts say, over plain lists of bytes.
pub mod Faults
pub mod Pieces
pub mod Forms
pub mod Fields
pub mod Cursors
