pub mod Untaken
pub mod State
pub mod Overflow
pub mod Kept
pub mod Follows
pub mod Pumping
