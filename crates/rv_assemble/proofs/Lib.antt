pub mod Kept
pub mod Aimed
pub mod Pushed
pub mod Found
pub mod Fits
pub mod Coded
pub mod Proper
