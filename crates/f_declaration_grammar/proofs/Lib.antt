pub mod ListingLaws
pub mod DeclaredSound
pub mod DeclaredGrows
pub mod PartsAgain
pub mod DeclaredAgain
