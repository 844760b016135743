pub mod Sizes
pub mod Units
