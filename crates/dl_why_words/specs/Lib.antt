pub mod Command
pub mod Task
pub mod Parse
pub mod Words
