-- The lemmas on the sheet file.
pub mod Readings
pub mod Words
pub mod Scripts
pub mod Tells
pub mod Layouts
pub mod Refusing
pub mod Running
pub mod AnswerBytes
pub mod AnswerTrips
pub mod AnswerWrites
