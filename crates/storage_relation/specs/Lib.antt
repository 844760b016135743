pub mod Relation
pub mod Flat
pub mod Run
pub mod Scenes
