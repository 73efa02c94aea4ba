pub mod Failures
pub mod Hours
pub mod Judging
pub mod Loading
pub mod Offsets
pub mod Reported
pub mod Texts
pub mod Words
