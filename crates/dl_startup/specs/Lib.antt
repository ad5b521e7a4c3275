pub mod Input
pub mod Output
pub mod Refusal
pub mod Status
pub mod Failures
pub mod Unchanged
pub mod Setup
pub mod Configuration
