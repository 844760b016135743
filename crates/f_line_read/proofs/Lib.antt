pub mod LineTurns
pub mod Words
