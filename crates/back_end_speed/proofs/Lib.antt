pub mod Picked
