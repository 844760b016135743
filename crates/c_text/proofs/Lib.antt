pub mod Steps
pub mod Best
pub mod Cuts
pub mod Runs
pub mod PieceLaws
pub mod WholeLaws
pub mod Apart
