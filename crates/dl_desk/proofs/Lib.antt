pub mod Places
pub mod Changes
pub mod Making
pub mod Desks
pub mod Posts
pub mod Assembling
pub mod Steps
