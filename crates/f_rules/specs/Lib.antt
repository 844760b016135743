pub mod Standing
pub mod PartTypes
pub mod RuleOf
