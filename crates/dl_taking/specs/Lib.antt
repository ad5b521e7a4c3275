pub mod Took
pub mod Resting
pub mod Side
pub mod Takes
pub mod Filling
pub mod Draining
pub mod Drained
