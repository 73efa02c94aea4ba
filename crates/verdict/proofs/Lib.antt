-- The lemmas on hours, verdicts and texts.
pub mod Stops
pub mod Counts
pub mod Loads
pub mod Keeping
pub mod Listings
pub mod Meanings
pub mod Laid
