pub mod Fronting
pub mod Causing
pub mod Answering
pub mod Complete
pub mod Forming
