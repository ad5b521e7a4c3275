pub mod State
pub mod Levels
pub mod Messages
pub mod Turns
pub mod Pumping
pub mod Heard
pub mod Put
pub mod Later
