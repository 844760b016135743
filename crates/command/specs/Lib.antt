pub mod Number
pub mod Options
pub mod Files
pub mod Words
