pub mod Count
pub mod Contents
pub mod Answers
pub mod Listing
pub mod Files
pub mod InMemory
