pub mod Held
pub mod Valid
pub mod Homed
