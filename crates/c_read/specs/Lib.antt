pub mod Nesting
pub mod Reading
pub mod Views
pub mod BrokenAt
