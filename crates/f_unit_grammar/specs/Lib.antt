pub mod Units
pub mod Placing
pub mod Rules
