pub mod Given
pub mod Closed
mod Walks
