pub mod Short
pub mod Copying
pub mod Dims
pub mod Moving
pub mod Views
pub mod Counting
