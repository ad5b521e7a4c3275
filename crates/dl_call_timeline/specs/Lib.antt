pub mod Calls
pub mod Scale
pub mod Records
pub mod Marks
pub mod Names
pub mod Timeline
