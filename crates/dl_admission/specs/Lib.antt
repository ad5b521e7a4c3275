pub mod Part
pub mod Slow
pub mod Kept
pub mod Admission
pub mod Telling
