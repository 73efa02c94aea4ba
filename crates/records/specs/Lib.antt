-- The definitions and laws of the sheet file.
pub mod Bytes
pub mod Entries
pub mod Reading
pub mod Tags
pub mod Script
pub mod Layout
pub mod Refusals
pub mod Standing
pub mod Answers
pub mod Kinds
pub mod AnswerLaws
