pub mod Server
pub mod State
pub mod Accepts
pub mod Steps
pub mod Round
pub mod Closing
pub mod Holds
