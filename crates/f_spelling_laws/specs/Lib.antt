pub mod Told
pub mod Statements
pub mod Laws
pub mod Plain
