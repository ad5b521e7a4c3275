pub mod Questions
pub mod Arguments
pub mod Verdict
pub mod Answer
pub mod Asking
