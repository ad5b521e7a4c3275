pub mod Journal
pub mod Records
pub mod Closes
pub mod Told
