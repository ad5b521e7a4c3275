pub mod CallFrame
pub mod Scripts
pub mod Takes
pub mod RunRecords
pub mod SameRuns
pub mod Causes
pub mod WaitingClaims
