pub mod Pieces
pub mod Nesting
