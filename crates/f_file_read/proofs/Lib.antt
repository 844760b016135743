pub mod Stacks
pub mod Turns
pub mod Agreeing
pub mod Inside
pub mod Whole
