pub mod Earlier
pub mod Line
pub mod Script
pub mod Generated
pub mod Spelled
pub mod Playable
