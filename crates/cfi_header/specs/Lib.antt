pub mod Text
pub mod Codes
