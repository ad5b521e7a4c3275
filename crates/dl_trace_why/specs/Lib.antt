pub mod Wanted
pub mod Reading
pub mod Reads
pub mod Status
pub mod Says
pub mod Account
pub mod Writes
