pub mod State
pub mod Finding
pub mod Levels
pub mod Pumping
