pub mod Places
pub mod Answer
pub mod Numbers
pub mod Names
pub mod References
pub mod Held
