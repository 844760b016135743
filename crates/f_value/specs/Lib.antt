pub mod Integers
pub mod Values
pub mod Operators
pub mod Texts
pub mod Intrinsics
pub mod Bits
pub mod Answers
pub mod Laws
