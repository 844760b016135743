pub mod Quiet
pub mod StatementLaws
