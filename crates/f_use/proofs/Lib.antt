pub mod Growth
pub mod Grants
pub mod Listed
pub mod Scopes
