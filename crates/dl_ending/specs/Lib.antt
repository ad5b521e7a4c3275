pub mod Ending
pub mod Storage
