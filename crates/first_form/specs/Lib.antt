pub mod Lines
pub mod Words
pub mod Forms
pub mod Runs
pub mod Readings
