pub mod Begins
pub mod Folders
pub mod Answering
pub mod Endings
pub mod Playings
pub mod Runs
pub mod OneText
