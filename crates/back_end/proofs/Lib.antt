pub mod Checked
pub mod Assigned
pub mod Composed
pub mod Sufficing
