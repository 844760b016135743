pub mod Places
pub mod Declarations
pub mod Accessible
pub mod Selections
pub mod Rules
pub mod Order
pub mod Scoped
pub mod Laws
