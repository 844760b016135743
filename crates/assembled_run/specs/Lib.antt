pub mod Program
pub mod Machine
pub mod Theorems
pub mod Trial
