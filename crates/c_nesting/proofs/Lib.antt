pub mod Agree
pub mod UnitsAgree
pub mod Forms
