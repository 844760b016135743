pub mod Sound
pub mod Begins
pub mod Closed
pub mod Steps
pub mod Again
pub mod Outside
pub mod ActionSound
pub mod ActionAgain
