pub mod Lists
pub mod Components
