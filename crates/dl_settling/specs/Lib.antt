pub mod Ends
pub mod State
pub mod Settling
pub mod Stopped
pub mod Went
pub mod Room
