pub mod Grammar
pub mod Reading
pub mod Actions
pub mod ActionReading
