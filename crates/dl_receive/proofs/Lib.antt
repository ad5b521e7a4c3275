pub mod Sources
pub mod Fields
pub mod Counters
pub mod StreamCuts
pub mod Receivers
pub mod Listeners
pub mod Hearing
pub mod LostCalls
