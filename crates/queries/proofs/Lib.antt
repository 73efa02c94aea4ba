pub mod Picked
pub mod Ranges
pub mod Answered
