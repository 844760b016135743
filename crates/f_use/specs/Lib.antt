pub mod Origins
pub mod Places
pub mod Uses
pub mod Associated
