pub mod Walking
pub mod Lines
pub mod Views
pub mod Parts
