pub mod Lists
pub mod Tests
pub mod Alike
pub mod Legal
