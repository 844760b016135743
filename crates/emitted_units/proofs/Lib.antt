pub mod Encodable
pub mod Walk
pub mod Layouts
pub mod Lines
pub mod Distinct
pub mod Listed
pub mod Units
