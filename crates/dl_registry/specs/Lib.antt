pub mod Kept
pub mod Refresh
pub mod Info
pub mod Table
