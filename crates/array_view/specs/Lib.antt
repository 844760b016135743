pub mod Subscripts
pub mod Elements
pub mod Contiguous
pub mod Sections
pub mod Strides
pub mod Laws
