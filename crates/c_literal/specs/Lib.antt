pub mod Digits
pub mod IntegerReading
pub mod Integers
pub mod LiteralReading
pub mod Literals
