pub mod Single
pub mod Selected
