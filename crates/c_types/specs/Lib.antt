pub mod Adjusted
pub mod Compatible
pub mod Files
pub mod Layouts
pub mod Sizes
pub mod Tables
