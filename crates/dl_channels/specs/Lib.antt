pub mod Accepting
pub mod Visits
pub mod Rounds
