pub mod Telling
pub mod Pieces
pub mod Stopping
pub mod Ending
