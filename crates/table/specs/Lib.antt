pub mod Limited
pub mod Codes
pub mod Held
pub mod Judged
