pub mod Explaining
pub mod Standings
pub mod Ending
