pub mod Telling
pub mod Growing
pub mod Refills
pub mod Searching
pub mod Gathering
pub mod Wording
