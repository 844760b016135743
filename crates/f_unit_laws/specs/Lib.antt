pub mod Shapes
pub mod Derivations
