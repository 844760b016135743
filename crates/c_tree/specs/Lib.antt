pub mod Heights
pub mod Units
