pub mod Sound
pub mod Came
pub mod Ways
pub mod Stepped
