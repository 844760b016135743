pub mod Outside
pub mod Sources
pub mod Reading
