pub mod Counted
pub mod Kept
pub mod Shelf
pub mod Wire
pub mod Clients
