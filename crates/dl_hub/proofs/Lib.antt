pub mod Untaken
pub mod Overflow
pub mod Following
pub mod Keeping
pub mod Places
pub mod Calls
pub mod Pumping
