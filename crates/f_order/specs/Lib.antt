pub mod Marks
pub mod Units
pub mod Graph
pub mod Reach
pub mod Ready
pub mod Order
pub mod Scopes
pub mod Resolved
