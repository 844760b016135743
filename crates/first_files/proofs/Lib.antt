pub mod FormStatements
pub mod Cutting
pub mod TextParts
pub mod Joining
pub mod FormLines
pub mod FormTexts
