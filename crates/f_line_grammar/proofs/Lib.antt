pub mod LineSound
pub mod LineAgain
