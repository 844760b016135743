pub mod Called
pub mod ActionTurns
