pub mod Frames
pub mod Execution
pub mod Next
