pub mod FirstPiece
pub mod CutPieces
pub mod Deepening
