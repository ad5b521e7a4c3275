pub mod Sinks
pub mod Staying
