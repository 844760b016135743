pub mod Lines
pub mod Said
pub mod Outside
pub mod Sources
pub mod Front
pub mod Answer
pub mod Fault
