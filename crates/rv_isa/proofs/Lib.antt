pub mod Extended
pub mod WordsOf
pub mod Back
pub mod Forth
pub mod Kept
pub mod Laws
