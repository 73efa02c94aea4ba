pub mod Searches
pub mod Positions
pub mod Growth
pub mod Lengths
