pub mod Layers
pub mod Notes
pub mod Runs
