pub mod Blocks
pub mod Code
pub mod Sizes
pub mod Named
pub mod Forward
pub mod Emission
pub mod Paths
