pub mod Finds
pub mod Steps
pub mod Rests
pub mod Meets
pub mod Searches
pub mod Answer
pub mod Found
