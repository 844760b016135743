pub mod Classes
pub mod Pieces
pub mod Words
pub mod TextParts
pub mod Shapes
pub mod Lexed
pub mod Printed
