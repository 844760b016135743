pub mod Listing
pub mod Declarations
pub mod DeclarationReading
