pub mod Clients
pub mod Losses
pub mod Batches
pub mod Keeping
pub mod Following
pub mod Counts
pub mod Line
pub mod Tally
