pub mod Sinks
pub mod Sources
pub mod StoredText
pub mod Told
