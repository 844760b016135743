pub mod Charges
pub mod Joint
pub mod Units
