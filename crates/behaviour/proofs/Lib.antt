pub mod Endings
pub mod Later
pub mod Composes
pub mod Back
