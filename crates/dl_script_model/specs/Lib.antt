pub mod Marks
pub mod Steps
pub mod Replay
pub mod Runs
