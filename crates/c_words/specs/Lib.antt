pub mod Pieces
pub mod Words
pub mod Numbering
pub mod Making
