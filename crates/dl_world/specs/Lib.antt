pub mod Played
pub mod Stored
pub mod Follows
pub mod Known
pub mod Left
pub mod Fed
pub mod State
