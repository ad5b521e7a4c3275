pub mod Joined
pub mod Pieces
pub mod Cuts
pub mod Calls
pub mod Whole
