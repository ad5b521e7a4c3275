pub mod Queue
pub mod Stages
pub mod State
pub mod Follows
pub mod Injections
