pub mod Chains
pub mod Lookups
pub mod Scans
pub mod Units
pub mod Modules
pub mod Broken
